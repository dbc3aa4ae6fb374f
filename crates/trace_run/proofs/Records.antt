-- What a run in one process leaves, and that it is made again by its own events.
use Rattle.std.proofs.Common.{◌≡◌, ℕ, zero, suc, ◌≤◌, Bool, true, false, List, [], ◌∷◌, ◌++◌, length, Option, Some, None, Result, Ok, Err, refl, sym, ap, subst, ◌∙◌, inl, inr, arith}
use Rattle.std.specs.Prelude.{◌==◌, cond, option_map}
use Rattle.lx_abi.specs.declared.ptrace.Reply.{Reply}
use Rattle.lx_abi.specs.declared.ptrace.Reply.TheVariants.{Done as Agreed}
use Rattle.lx_abi.specs.declared.ptrace.Request.{Request}
use Rattle.lx_abi.specs.declared.boot.Boot.{Boot}
use Rattle.lx_abi.specs.declared.schedule.Event.{Event}
use Rattle.lx_abi.specs.declared.script.Rule.{Rule}
use Rattle.lx_abi.specs.Scripts.{choice_of}
use Rattle.lx_boot.specs.First.{first_shared}
use Rattle.lx_exec.specs.Programs.{booted}
use Rattle.lx_kernel.specs.Outcomes.{outcome_in}
use Rattle.lx_model.specs.Kernel.{Script}
use Rattle.lx_proc.specs.declared.state.Shared.{Shared}
use Rattle.lx_proc.specs.declared.state.UserState.{UserState}
use Rattle.lx_turn.specs.Linux.{linux}
use Rattle.pt_kernel.specs.Hosts.{Linux_host}
use Rattle.pt_kernel.specs.Noted.{noting}
use Rattle.pt_kernel.specs.Seen.{given, next_of_host, sees}
use Rattle.pt_model.specs.Calls.{attends, OutOfTurnsShowsNothing, RunsAppend, WorldsCall}
use Rattle.pt_model.specs.HostLaws.{HostsBeginAlike}
use Rattle.pt_model.specs.Hosting.{host_in}
use Rattle.pt_model.specs.Parts as parts
use Rattle.pt_model.specs.Ptrace.{Host}
use Rattle.pt_model.specs.Tracer.{first_tracer}
use Rattle.pt_model.specs.World.{World, effective, first_world, happens, world_run}
use Rattle.pt_schedule.specs.Few.{ListsGiveTheirEvents, some_listed}
use Rattle.pt_schedule.specs.Schedules.{Given, first_of, most_events, next_by, next_of, with_order}
use Rattle.pt_schedule.specs.declared.schedule.Order.TheVariants as order
use Rattle.pt_schedule.specs.declared.schedule.Schedule.{Schedule}
use Rattle.host_link.specs.LocalLinks.{host_of, noted_of, schedule_of}
use Rattle.host_link.specs.declared.local.LocalLink.{LocalLink}
use Rattle.tr_core.specs.Settings.{first_pen, options_by}
use Rattle.tr_core.specs.States.{State, heard, moved as moved_by, new_state}
use Rattle.tr_core.specs.declared.settings.Options.{Options}
use Rattle.trace_run.specs.BootedRuns.{following, BootedRun, IsBooted}
use Rattle.trace_run.specs.Local.{Feeds}
use Rattle.trace_run.specs.LocalRuns.{in_process, IsGoing, local_answers, LocalLinksServe}
use Rattle.trace_run.specs.Records.{BootedRunsLeave, Leaves, RunsReplay, noted_if}
use Rattle.trace_run.specs.Runs.{replies_of}
use Rattle.trace_run.specs.Writers.{Writer}
use Rattle.trace_run.specs.declared.running.Ended.{Ended}
use Rattle.trace_run.proofs.Booted.{is_going}
use Rattle.trace_run.proofs.Fed.{IsFed, is_fed}
use Rattle.trace_run.proofs.Locals.{IsLast, last_link}
use Rattle.trace_run.proofs.Resulting.{one_feed}

by_notes : (notes : Bool) (events : List Event) → noting (noted_if notes []) events ≡ noted_if notes events
by_notes true events = refl
by_notes false events = refl

module _ (serves : LocalLinksServe) (calls : WorldsCall Shared UserState) (appends : RunsAppend Shared UserState) (nothing : OutOfTurnsShowsNothing) (begin : HostsBeginAlike Shared UserState)
    (boot : Boot) (schedule : Schedule) (script : List Rule) (options : Options) (notes : Bool) (link link' : LocalLink) (old new : Writer) (ended : Ended) where
  leaves_whole : IsBooted boot schedule link → noted_of link ≡ noted_if notes [] → BootedRun boot script options link old (Ok ended) link' new → Leaves boot schedule script options notes (host_of link') (noted_of link')
  unfolding IsBooted LocalLinksServe heard moved_by
  leaves_whole is kept ran events fed_so =
      let o : Options = following options boot.follow in
      let po : parts.Options = options_by o in
      let choice : Script = choice_of script in
      let s : Shared = first_shared boot.limits boot.files boot.input in
      let b : UserState = booted boot.argv boot.env in
      let xs : List (Request × Reply) = ran.runs.exchanges in
      let going : IsGoing link = is_going begin link s b is.0 is.1 is.2 is.3 in
      let first : State = new_state po choice (first_pen o) in
      let last : IsLast first (Agreed ∷ replies_of xs) ran.runs.link (record { link = link'; writer = new; state = ran.state }) =
      last_link local_answers first (Agreed ∷ replies_of xs) old ran.runs.link (record { link = link'; writer = new; state = ran.state }) ran.runs.last in
      let begun : State = heard first Agreed in
      let fed : IsFed local_answers in_process next_of_host linux outcome_in IsGoing serves calls appends nothing begun link ran.runs.link [] xs =
      is_fed local_answers in_process next_of_host linux outcome_in IsGoing serves calls appends nothing xs begun link ran.runs.link [] going ran.runs.led ran.runs.asked last.asks_none in
      let host : host_in (host_of link).hosting ≡ (first_world s b).host = ap host_in is.0 ∙ (begin s b).0 in
      let world : record { host = host_in (host_of link).hosting; tracer = first_tracer; printed = [] } ≡ first_world s b = ap (λ (h : Host Shared UserState). record { host = h; tracer = first_tracer; printed = [] }) host in
      let by_schedule : Feeds next_of_host linux outcome_in po choice schedule (first_world s b) fed.events =
      subst (λ (y : Schedule). Feeds next_of_host linux outcome_in po choice y (first_world s b) fed.events) is.5
      (subst (λ (v : World Shared UserState). Feeds next_of_host linux outcome_in po choice (schedule_of link) v fed.events) world fed.given) in
      let same : fed.events ≡ events = one_feed next_of_host linux outcome_in po choice fed.events events schedule (first_world s b) by_schedule fed_so in
      record {
        host_is =
            ap (λ (l : LocalLink). host_in (host_of l).hosting) last.link ∙ sym fed.host
            ∙ ap (λ (v : World Shared UserState). (world_run linux outcome_in po choice v fed.events).host) world
            ∙ ap (λ (es : List Event). (world_run linux outcome_in po choice (first_world s b) es).host) same;
        turned =
            ap (λ (l : LocalLink). (host_of l).hosting.turns) last.link ∙ fed.turned
            ∙ ap (λ (v : Linux_host). v.turns ++ effective linux outcome_in po choice (record { host = host_in (host_of link).hosting; tracer = first_tracer; printed = [] }) fed.events) is.0
            ∙ ap (λ (v : World Shared UserState). effective linux outcome_in po choice v fed.events) world
            ∙ ap (λ (es : List Event). effective linux outcome_in po choice (first_world s b) es) same;
        noted_are =
            ap noted_of last.link ∙ fed.noted ∙ ap (λ n. noting n fed.events) kept ∙ by_notes notes fed.events ∙ ap (noted_if notes) same;
      }

pub booted_leave : LocalLinksServe → WorldsCall Shared UserState → RunsAppend Shared UserState → OutOfTurnsShowsNothing → HostsBeginAlike Shared UserState → BootedRunsLeave
unfolding BootedRunsLeave
booted_leave serves calls appends nothing begin boot schedule script options notes link link' old new (Ok ended) is kept ran =
    leaves_whole serves calls appends nothing begin boot schedule script options notes link link' old new ended is kept ran
booted_leave serves calls appends nothing begin boot schedule script options notes link link' old new (Err fault) is kept ran = tt

-- ---- a list gives its events

-- nothing where none is left, whether more are allowed or not
none_left : (b : Bool) (left : ℕ) → given (with_order (cond b (record { event = None; schedule = record { events = []; left = left } }) (first_of [] left)) (λ l. order.Listed l)) ≡ None
none_left true left = refl
none_left false left = refl

given_so : (g : Given Schedule) (e : Event) (y : Schedule) → g.event ≡ Some e → g.schedule ≡ y → given g ≡ Some (e, y)
given_so g e y is rest = ap (option_map (λ f. (f, g.schedule))) is ∙ ap (λ z. Some (e, z)) rest

module _ (lists : ListsGiveTheirEvents) (o : parts.Options) (script : Script) where
  over_list : (left : ℕ) (w : World Shared UserState) (x : Schedule) → Feeds next_of_host linux outcome_in o script x w [] → Feeds next_of_host linux outcome_in o script (some_listed [] left) w []
  unfolding next_by
  over_list left w x (inl none) = inl none
  over_list left w x (inr over) = inr (none_left (left == 0) left)

  by_list : (events : List Event) (left : ℕ) (x : Schedule) (w : World Shared UserState) → length events ≤ left → Feeds next_of_host linux outcome_in o script x w events
      → Feeds next_of_host linux outcome_in o script (some_listed events left) w events
  by_list [] left x w few fed = over_list left w x fed
  by_list (e ∷ events) zero x w few fed = absurd (omega (arith, few))
  by_list (e ∷ events) (suc n) x w few fed =
      let one = lists e events n (sees (attends o w)) in
      (some_listed events n, (fed.1.0, given_so (next_of (some_listed (e ∷ events) (suc n)) (sees (attends o w))) e (some_listed events n) one.0 one.1, by_list events n fed.0 (happens linux outcome_in o script w e) (omega (arith, few)) fed.1.2))

pub runs_replay : ListsGiveTheirEvents → RunsReplay
runs_replay lists boot schedule script options run r few = record {
  events = r.events;
  given =
      by_list lists (options_by (following options boot.follow)) (choice_of script) r.events most_events schedule
      (first_world (first_shared boot.limits boot.files boot.input) (booted boot.argv boot.env)) few r.given;
  turned = r.turned;
  same_outcome = r.same_outcome;
  lost = r.lost;
  later = r.later;
  begins = r.begins;
  shown = r.shown;
  whole = r.whole;
  told = r.told;
  out_of_turns = r.out_of_turns;
}
