-- A run over a host in memory, from the events that its schedule gave.
use Rattle.std.proofs.Common.{◌≡◌, ℕ, ◌≤◌, ◌<◌, Bool, true, List, [], ◌∷◌, ◌++◌, Some, None, Ok, refl, sym, ap, subst, ◌∙◌}
use Rattle.std.proofs.lemmas.List.{append-nil}
use Rattle.lx_abi.specs.declared.outcome.Outcome.{Outcome}
use Rattle.lx_abi.specs.declared.ptrace.Reply.{Reply}
use Rattle.lx_abi.specs.declared.ptrace.Reply.TheVariants.{Done as Agreed}
use Rattle.lx_abi.specs.declared.ptrace.Request.{Request}
use Rattle.lx_abi.specs.declared.schedule.Event.{Event}
use Rattle.lx_model.specs.Kernel.{Script, traces, Kernel}
use Rattle.lx_model.specs.Machine.{Machine, IsMachine}
use Rattle.pt_model.specs.Calls.{Talks, WorldsCall, RunsAppend, OutOfTurnsShowsNothing, SchedulesAreLists, TalksAreOwn}
use Rattle.pt_model.specs.Attending.{Schedules}
use Rattle.pt_model.specs.Headline.{IsTold, traced_run, plain_run, IsTransparent}
use Rattle.pt_model.specs.Parts as parts_of
use Rattle.pt_model.specs.Ptrace.{Host, is_there}
use Rattle.pt_model.specs.Tracer.{Over, first_tracer, request}
use Rattle.pt_model.specs.View.{has_exit}
use Rattle.pt_model.specs.World.{World, world_run, effective, first_world}
use Rattle.tr_core.specs.Settings.{options_by, first_pen}
use Rattle.tr_core.specs.Laws.{TextsAreWhole}
use Rattle.tr_core.specs.States.{State, new_state, heard, moved as moved_by, told, request_of}
use Rattle.tr_core.specs.declared.settings.Options.{Options}
use Rattle.trace_run.specs.declared.running.Ended.{Ended}
use Rattle.trace_run.specs.declared.running.Ended.TheVariants.{Whole, OutOfTurns}
use Rattle.trace_run.specs.Runs.{Answers, Ends, Last, RunsWhole, replies_of}
use Rattle.trace_run.specs.Tells.{view_text, shown_text, Tells, RunsTell}
use Rattle.trace_run.specs.Writers.{Writer}
use Rattle.trace_run.specs.Local.{InMemory, SoundCall, Feeds, LocalRun, LocalRunsTell}
use Rattle.trace_run.proofs.Fed.{IsFed, is_fed}

-- it asks nothing more, and its link stays
pub record IsLast {L : Type 0} (s : State) (rs : List Reply) (a : L) (b : Ends L) : Type 0 where
  pub asks_none : request_of (told s rs) ≡ None
  pub link : b.link ≡ a

pub last_link : {L : Type 0} (answers : Answers L) (s : State) (rs : List Reply) (old : Writer) (a : L) (b : Ends L) → Last answers s rs old a (Ok tt) b → IsLast s rs a b
unfolding Last
last_link answers s rs old a b h = record { asks_none = h.3; link = h.4 }

module _ {S B : Type 0} (m : Machine S B) (outcome : S → Outcome) (o : Options) (script : Script) (s : S) (b : B) (events : List Event) where
  abbrev plain : Kernel S B
  plain = plain_run m outcome (options_by o) script s b events

  -- what was shown, by how the run ended
  record Shown (ended : Ended) (trace : List ℕ) (left : Outcome) : Type 0 where
    pub lost : ℕ → Bool
    pub later : List ℕ
    pub begins : trace ++ later ≡ view_text m outcome o script s b events lost
    pub all : trace ≡ shown_text m outcome o script s b events
    pub told : (y : Outcome) → ended ≡ Whole y → (traced_run m outcome (options_by o) script s b events).tracer.focus ≡ Over y
    pub whole : (y : Outcome) → ended ≡ Whole y → (y ≡ left) × (later ≡ []) × ((q : ℕ) → 1 ≤ q → q < plain.child → traces o.follow q ≡ true → has_exit q plain.log ≡ true)
    pub out_of_turns : ended ≡ OutOfTurns → is_there (request (options_by o) (traced_run m outcome (options_by o) script s b events).tracer.focus) ≡ true

  shown : (ended : Ended) (trace : List ℕ) (left : Outcome) → left ≡ outcome plain.shared → Tells m outcome o script s b events (Ok ended) (Some []) (Some trace) → Shown ended trace left
  shown (Whole x) trace left same t =
      let k = t.whole x refl in
      record {
        lost = k.lost;
        later = [];
        begins = append-nil trace ∙ k.all;
        all = t.shown;
        told = λ y e. k.told ∙ ap (λ z. Over z) (cc e);
        whole = λ y e. (cc e ∙ k.same_outcome ∙ sym same, refl, k.all_ended);
        out_of_turns = λ e. absurd (cc e);
      }
  shown OutOfTurns trace left same t = record {
    lost = t.lost;
    later = t.begins.1.0;
    begins = ap (λ l. l ++ t.begins.1.0) t.begins.1.1.1 ∙ t.begins.1.1.0;
    all = t.shown;
    told = λ y e. absurd (cc e);
    whole = λ y e. absurd (cc e);
    out_of_turns = λ e. t.out_of_turns refl;
  }

-- what is cited of the world, of tracers and of runs
pub record Cited {L : Type 0} (X S B : Type 0) (answers : Answers L) : Type 0 where
  pub tells : RunsTell S B answers
  pub own : TalksAreOwn S B
  pub lists : SchedulesAreLists X S B
  pub calls : WorldsCall S B
  pub appends : RunsAppend S B
  pub nothing : OutOfTurnsShowsNothing
  pub transparent : IsTransparent S B
  pub texts : TextsAreWhole

-- a run over a link that is sound, at its beginning
pub sound_runs_tell : {L X S B : Type 0} (answers : Answers L) → Cited X S B answers → (sound : L → Type 0)
    (o : Options) (script : Script) (link link' : L) (old new : Writer) (trace : List ℕ) → old.contents ≡ Some [] → new.contents ≡ Some trace → (ended : Ended)
    (w : RunsWhole answers (new_state (options_by o) script (first_pen o)) link old (Ok ended) link' new)
    (i : InMemory L X S B) (choose : Schedules X S B) (m : Machine S B) → IsMachine m → IsTold m → (outcome : S → Outcome) (s : S) (b : B)
    → ((a : L) (q : Request) (r : Reply) (b : L) → sound a → answers a q (Ok r) b → SoundCall sound i choose m outcome a q r b)
    → sound link → i.host link ≡ (first_world s b).host → i.turns link ≡ []
    → LocalRun choose m outcome o script (i.schedule link) s b ended trace (outcome (i.host link').shared) (i.turns link')
unfolding heard moved_by RunsTell
sound_runs_tell {L} {X} {S} {B} answers cited sound o script link link' old new trace nothing whole ended w i choose m is_m is_told outcome s b serves is_sound first no_turns =
    let po : parts_of.Options = options_by o in
    let xs : List (Request × Reply) = w.runs.exchanges in
    let begun : State = heard (new_state po script (first_pen o)) Agreed in
    let last : IsLast (new_state po script (first_pen o)) (Agreed ∷ replies_of xs) w.runs.link (record { link = link'; writer = new; state = w.state }) =
    last_link answers (new_state po script (first_pen o)) (Agreed ∷ replies_of xs) old w.runs.link (record { link = link'; writer = new; state = w.state }) w.runs.last in
    let fed : IsFed answers i choose m outcome sound serves cited.calls cited.appends cited.nothing begun link w.runs.link [] xs =
    is_fed answers i choose m outcome sound serves cited.calls cited.appends cited.nothing xs begun link w.runs.link [] is_sound w.runs.led w.runs.asked last.asks_none in
    let world : record { host = i.host link; tracer = first_tracer; printed = [] } ≡ first_world s b = ap (λ (h : Host S B). record { host = h; tracer = first_tracer; printed = [] }) first in
    let host : (traced_run m outcome po script s b fed.events).host ≡ i.host link' =
    ap (λ (v : World S B). (world_run m outcome po script v fed.events).host) (sym world) ∙ fed.host ∙ ap i.host (sym last.link) in
    let same : outcome (i.host link').shared ≡ outcome (plain_run m outcome po script s b fed.events).shared =
    ap (λ (h : Host S B). outcome h.shared) (sym host) ∙ (cited.transparent m is_m is_told outcome po (cited.texts o.string_limit o.limit_in_range) script s b fed.events).same_outcome in
    let talks : Talks m outcome po script first_tracer (first_world s b).host fed.events xs =
    subst (λ (h : Host S B). Talks m outcome po script first_tracer h fed.events xs) first (cited.lists choose m outcome po script first_tracer (i.schedule link) (i.host link) fed.events xs fed.over) in
    let t : Tells m outcome o script s b fed.events (Ok ended) (Some []) (Some trace) =
    subst (λ c. Tells m outcome o script s b fed.events (Ok ended) (Some []) c) whole
    (subst (λ c. Tells m outcome o script s b fed.events (Ok ended) c new.contents) nothing
    (cited.tells o script link link' old new (Ok ended) w m is_m is_told outcome s b fed.events (cited.own m outcome po script s b fed.events xs talks))) in
    let x = shown m outcome o script s b fed.events ended trace (outcome (i.host link').shared) same t in
    record {
      events = fed.events;
      given = subst (λ (v : World S B). Feeds choose m outcome po script (i.schedule link) v fed.events) world fed.given;
      turned = ap i.turns last.link ∙ fed.turned ∙ ap (λ l. l ++ effective m outcome po script (record { host = i.host link; tracer = first_tracer; printed = [] }) fed.events) no_turns ∙ ap (λ (v : World S B). effective m outcome po script v fed.events) world;
      same_outcome = same;
      lost = x.lost;
      later = x.later;
      begins = x.begins;
      shown = x.all;
      whole = x.whole;
      told = x.told;
      out_of_turns = x.out_of_turns;
    }

pub local_runs_tell : {L X S B : Type 0} (answers : Answers L) → Cited X S B answers → LocalRunsTell X S B answers
unfolding LocalRunsTell
local_runs_tell {L} answers cited o script link link' old new trace nothing whole ended w i choose m is_m is_told outcome s b serves first no_turns =
    sound_runs_tell answers cited (λ (a : L). Unit {0}) o script link link' old new trace nothing whole ended w i choose m is_m is_told outcome s b
    (λ a q r b _ h. record { served = serves a q r b h; stays = λ _. tt }) tt first no_turns
