-- A link to a host in this process serves each request by the ptrace machine.
use Rattle.std.proofs.Common.{◌≡◌, true, false, List, [], ◌∷◌, Option, Some, None, Result, Ok, refl, sym, ap, subst, ◌∙◌, inl, inr}
use Rattle.std.specs.Prelude.{is_none}
use Rattle.lx_abi.specs.declared.ptrace.Reply.{Reply}
use Rattle.lx_abi.specs.declared.ptrace.Reply.TheVariants.{Done as Agreed}
use Rattle.lx_abi.specs.declared.ptrace.Request.{Request}
use Rattle.lx_proc.specs.declared.state.Shared.{Shared}
use Rattle.lx_proc.specs.declared.state.UserState.{UserState}
use Rattle.lx_turn.specs.Linux.{linux}
use Rattle.lx_kernel.specs.Outcomes.{outcome_in}
use Rattle.lx_abi.specs.declared.schedule.Event.{Event}
use Rattle.lx_model.specs.Kernel.{Script}
use Rattle.lx_model.specs.Machine.{IsMachine}
use Rattle.pt_model.specs.Attending.{reply_or, left_pending}
use Rattle.pt_model.specs.Headline.{IsTold}
use Rattle.pt_model.specs.Hosting.{host_in, IsFresh, first_hosting, with_pending, hosting_asked}
use Rattle.pt_model.specs.HostLaws.{HostsBeginAlike}
use Rattle.pt_model.specs.Calls.{TalksOver, WorldsCall, RunsAppend, OutOfTurnsShowsNothing, SchedulesAreLists, TalksAreOwn, IsOwn}
use Rattle.pt_model.specs.Ptrace.{Host, is_there}
use Rattle.pt_model.specs.Tracer.{first_tracer}
use Rattle.pt_model.specs.World.{World, first_world}
use Rattle.pt_kernel.specs.Attends.{Attended}
use Rattle.pt_kernel.specs.Hosts.{HostState, Linux_host}
use Rattle.pt_kernel.specs.Noted.{noting}
use Rattle.pt_kernel.specs.Seen.{next_of_host, IsCalled, HostsAreCalled}
use Rattle.pt_schedule.specs.declared.schedule.Schedule.{Schedule}
use Rattle.host_link.specs.LocalLinks.{Calls, host_of, schedule_of, noted_of, faults_of, is_over}
use Rattle.host_link.specs.Locals.{Serves, reply_or_over}
use Rattle.host_link.specs.declared.local.LocalLink.{LocalLink}
use Rattle.tr_core.specs.Settings.{options_by, first_pen}
use Rattle.tr_core.specs.States.{State, new_state, heard, moved as moved_by, request_of, told}
use Rattle.tr_core.specs.declared.settings.Options.{Options}
use Rattle.trace_run.specs.Local.{Feeds, SoundCall}
use Rattle.trace_run.specs.LocalRuns.{in_process, IsGoing, local_answers, AnswersItsOwn, LinkTells, LocalLinksServe, LocalLinksAnswerTheirOwn, LocalLinksTell, LocalLinksTellParts}
use Rattle.trace_run.specs.Runs.{Answers, Asked, Ends, Leads, RunsWhole, replies_of}
use Rattle.trace_run.specs.Tells.{RunsTell, Tells}
use Rattle.trace_run.specs.Writers.{Writer}
use Rattle.trace_run.specs.declared.running.Ended.{Ended}
use Rattle.trace_run.specs.declared.running.RunFault.{RunFault}
use Rattle.trace_run.proofs.Fed.{IsFed, is_fed, Talk, talk}
use Rattle.trace_run.proofs.Locals.{Cited, sound_runs_tell}
use Rattle.trace_run.proofs.Telling.{IsEnded, last_ended, on_ok}

put_is : (v w : Linux_host) (q : Request) (x : Option Request) → hosting_asked v q x ≡ Some w → w ≡ with_pending v (Some q)
put_is v w q None e = sym (cc e)
put_is v w q (Some other) e = absurd (cc e)

same_reply : (x : Option Reply) → reply_or_over x ≡ reply_or x
same_reply None = refl
same_reply (Some r) = refl

none_pending : (q : Request) (x : Option Reply) → is_there x ≡ true → left_pending q x ≡ None
none_pending q None h = absurd (cc h)
none_pending q (Some r) h = refl

not_none : (x : Option Reply) → is_there x ≡ true → is_none x ≡ false
not_none None h = absurd (cc h)
not_none (Some r) h = refl

module _ (called_so : HostsAreCalled) where
  -- the request that was put, and the events that answered it
  serves_so : (a : HostState) (s : Schedule) (q : Request) (z : Attended) → IsFresh a.hosting → a.failed ≡ false → (sv : Serves a s q z) → IsCalled a.hosting s q z sv.attends.fed
  serves_so a s q z fresh whole sv =
      let put : sv.asked.hosting ≡ with_pending a.hosting (Some q) = put_is a.hosting sv.asked.hosting q a.hosting.pending sv.put in
      let c : IsCalled sv.asked.hosting s q z sv.attends.fed =
      called_so sv.asked s q z (subst (λ (v : Linux_host). IsFresh v) (sym put) fresh) (ap (λ (h : HostState). h.failed) sv.rest ∙ whole) (ap (λ (v : Linux_host). v.pending) put) sv.attends in
      let d : IsCalled (with_pending a.hosting (Some q)) s q z sv.attends.fed = subst (λ (v : Linux_host). IsCalled v s q z sv.attends.fed) put c in
      record {
        left = d.left;
        gives = d.gives;
        host = d.host;
        used = d.used;
        reply = d.reply;
        turned = d.turned;
        pending = d.pending;
        fresh = d.fresh;
        whole = d.whole;
        goes_on = d.goes_on;
        ended = d.ended;
      }

  -- a request that was put to a host whose schedule goes on
  put_call : (a : LocalLink) (q : Request) (r : Reply) (b : LocalLink) (x : Option Reply) → IsGoing a
      → (sv : Serves (host_of a) (schedule_of a) q (record { host = host_of b; schedule = schedule_of b; reply = x }))
      → r ≡ reply_or_over x → is_over b ≡ is_none x → noted_of b ≡ noting (noted_of a) sv.attends.fed → faults_of b ≡ faults_of a
      → SoundCall IsGoing in_process next_of_host linux outcome_in a q r b
  put_call a q r b x going sv said over noted kept =
      let c : IsCalled (host_of a).hosting (schedule_of a) q (record { host = host_of b; schedule = schedule_of b; reply = x }) sv.attends.fed =
      serves_so (host_of a) (schedule_of a) q (record { host = host_of b; schedule = schedule_of b; reply = x }) going.fresh going.whole sv in
      record {
        served = record {
          fed = sv.attends.fed;
          left = c.left;
          call = record {
            gives = c.gives;
            host = c.host;
            left = c.used;
            reply = said ∙ same_reply x ∙ ap reply_or (sym c.reply);
            ended = λ e. c.ended (sym c.reply ∙ e);
          };
          turned = c.turned;
          noted = noted;
          goes_on = λ h. c.goes_on (ap is_there (sym c.reply) ∙ h);
        };
        stays = λ h. record {
          fresh = c.fresh;
          whole = c.whole;
          idle = c.pending ∙ none_pending q x (ap is_there (sym c.reply) ∙ h);
          unbroken = kept ∙ going.unbroken;
          going = over ∙ not_none x (ap is_there (sym c.reply) ∙ h);
        };
      }

by_calls : HostsAreCalled → (a : LocalLink) (q : Request) (r : Reply) (b : LocalLink) → IsGoing a → faults_of b ≡ faults_of a → Calls a q (Ok r) b → SoundCall IsGoing in_process next_of_host linux outcome_in a q r b
unfolding Calls
by_calls called_so a q r b going kept (inl ended) = absurd (cc (ended.0, going.going))
by_calls called_so a q r b going kept (inr h) = put_call called_so a q r b h.1.1.0 going h.1.1.1.0 h.1.1.1.1.0 h.1.1.1.1.1.0 h.1.1.1.1.1.1 kept

pub local_links_serve : HostsAreCalled → LocalLinksServe
unfolding LocalLinksServe
local_links_serve called_so a q r b going h = by_calls called_so a q r b going h.faults h.answered

module _ (serves : LocalLinksServe) (calls : WorldsCall Shared UserState) (appends : RunsAppend Shared UserState) (nothing : OutOfTurnsShowsNothing) (lists : SchedulesAreLists Schedule Shared UserState) (own : TalksAreOwn Shared UserState) (begin : HostsBeginAlike Shared UserState)
    (o : Options) (script : Script) (link link' : LocalLink) (exchanges : List (Request × Reply)) (s : Shared) (b : UserState) (going : IsGoing link) (first : (host_of link).hosting ≡ first_hosting s b) where
  own_by : (events : List Event) → TalksOver next_of_host linux outcome_in (options_by o) script first_tracer (schedule_of link) (host_in (host_of link).hosting) events exchanges
      → (request_of (told (new_state (options_by o) script (first_pen o)) (Agreed ∷ replies_of exchanges)) ≡ None → Feeds next_of_host linux outcome_in (options_by o) script (schedule_of link) (record { host = host_in (host_of link).hosting; tracer = first_tracer; printed = [] }) events)
      → AnswersItsOwn o script s b link exchanges
  own_by events talks fed =
      let host : host_in (host_of link).hosting ≡ (first_world s b).host = ap host_in first ∙ (begin s b).0 in
      let world : record { host = host_in (host_of link).hosting; tracer = first_tracer; printed = [] } ≡ first_world s b = ap (λ (h : Host Shared UserState). record { host = h; tracer = first_tracer; printed = [] }) host in
      let over : TalksOver next_of_host linux outcome_in (options_by o) script first_tracer (schedule_of link) (first_world s b).host events exchanges =
      subst (λ (h : Host Shared UserState). TalksOver next_of_host linux outcome_in (options_by o) script first_tracer (schedule_of link) h events exchanges) host talks in
      record {
        events = events;
        given = over;
        fed = λ none. subst (λ (v : World Shared UserState). Feeds next_of_host linux outcome_in (options_by o) script (schedule_of link) v events) world (fed none);
        own = own linux outcome_in (options_by o) script s b events exchanges (lists next_of_host linux outcome_in (options_by o) script first_tracer (schedule_of link) (first_world s b).host events exchanges over);
      }

  pub answers_its_own : Leads local_answers link exchanges link' → Asked (heard (new_state (options_by o) script (first_pen o)) Agreed) exchanges
      → (asks : Option Request) → request_of (told (new_state (options_by o) script (first_pen o)) (Agreed ∷ replies_of exchanges)) ≡ asks → AnswersItsOwn o script s b link exchanges
  unfolding heard moved_by LocalLinksServe
  answers_its_own led asked None e =
      let begun : State = heard (new_state (options_by o) script (first_pen o)) Agreed in
      let fed : IsFed local_answers in_process next_of_host linux outcome_in IsGoing serves calls appends nothing begun link link' [] exchanges =
      is_fed local_answers in_process next_of_host linux outcome_in IsGoing serves calls appends nothing exchanges begun link link' [] going led asked e in
      own_by fed.events fed.over (λ none. fed.given)
  answers_its_own led asked (Some q) e =
      let begun : State = heard (new_state (options_by o) script (first_pen o)) Agreed in
      let said : Talk local_answers in_process next_of_host linux outcome_in IsGoing serves calls appends nothing begun link exchanges =
      talk local_answers in_process next_of_host linux outcome_in IsGoing serves calls appends nothing exchanges begun link link' going led asked in
      own_by said.0 said.1 (λ none. absurd (cc (sym e ∙ none)))

pub local_links_answer_their_own : LocalLinksServe → WorldsCall Shared UserState → RunsAppend Shared UserState → OutOfTurnsShowsNothing → SchedulesAreLists Schedule Shared UserState → TalksAreOwn Shared UserState → HostsBeginAlike Shared UserState → LocalLinksAnswerTheirOwn
unfolding LocalLinksAnswerTheirOwn
local_links_answer_their_own serves calls appends nothing lists own begin o script link link' exchanges s b going first led asked =
    answers_its_own serves calls appends nothing lists own begin o script link link' exchanges s b going first led asked (request_of (told (new_state (options_by o) script (first_pen o)) (Agreed ∷ replies_of exchanges))) refl

pub local_links_tell : Cited Schedule Shared UserState local_answers → LocalLinksServe → HostsBeginAlike Shared UserState → IsMachine linux → IsTold linux → LocalLinksTell
unfolding LocalLinksTell LocalLinksServe
local_links_tell cited serves begin machine told o script link link' old new trace nothing whole ended w s b going first =
    sound_runs_tell local_answers cited IsGoing o script link link' old new trace nothing whole ended w in_process next_of_host linux machine told outcome_in s b
    serves going
    (ap host_in first ∙ (begin s b).0)
    (ap (λ (v : Linux_host). v.turns) first)

-- a run over any link, whose replies are those of such a link
pub link_tells : {L : Type 0} (answers : Answers L) (o : Options) (script : Script) (host : LocalLink) (s : Shared) (b : UserState) (link link' : L) (old new : Writer) (result : Result Ended RunFault)
    (w : RunsWhole answers (new_state (options_by o) script (first_pen o)) link old result link' new) → AnswersItsOwn o script s b host w.runs.exchanges
    → ((events : List Event) → IsOwn linux outcome_in (options_by o) script s b events (replies_of w.runs.exchanges) → Tells linux outcome_in o script s b events result old.contents new.contents)
    → LinkTells o script s b host w.runs.exchanges result old.contents new.contents
link_tells {L} answers o script host s b link link' old new result w x tells =
    let first : State = new_state (options_by o) script (first_pen o) in
    let rs : List Reply = Agreed ∷ replies_of w.runs.exchanges in
    let end : Ends L = record { link = link'; writer = new; state = w.state } in
    record {
      events = x.events;
      given = x.given;
      fed = on_ok result (λ (ended : IsEnded first rs old end). x.fed ended.asks_none) (last_ended answers first rs old w.runs.link result end w.runs.last);
      tells = tells x.events x.own;
    }

pub local_links_tell_parts : LocalLinksAnswerTheirOwn → RunsTell Shared UserState local_answers → IsMachine linux → IsTold linux → LocalLinksTellParts
unfolding LocalLinksTellParts LocalLinksAnswerTheirOwn RunsTell
local_links_tell_parts own tells machine told o script link link' old new result w s b going first =
    link_tells local_answers o script link s b link link' old new result w (own o script link w.runs.link w.runs.exchanges s b going first w.runs.led w.runs.asked)
    (λ events is_own. tells o script link link' old new result w linux machine told outcome_in s b events is_own)
