-- Laws of whole runs in one process, from their contracts.
use Rattle.std.proofs.Common.{◌≡◌, ℕ, ◌≤◌, ◌<◌, true, List, [], ◌∷◌, Option, Some, None, Ok, refl, sym, ap, ap₂, subst, ◌∙◌, inl, inr}
use Rattle.std.specs.Io.KnownBytes.{Appends}
use Rattle.lx_abi.specs.declared.boot.Boot.{Boot}
use Rattle.lx_abi.specs.declared.outcome.Outcome.{Outcome}
use Rattle.lx_abi.specs.declared.schedule.Event.{Event}
use Rattle.lx_abi.specs.declared.script.Rule.{Rule}
use Rattle.lx_abi.specs.Log.{Noted}
use Rattle.lx_abi.specs.Scripts.{choice_of}
use Rattle.lx_boot.specs.First.{first_shared}
use Rattle.lx_exec.specs.Programs.{booted}
use Rattle.lx_kernel.specs.Outcomes.{outcome_in}
use Rattle.lx_model.specs.Kernel.{Script, traces, Kernel, kernel_run, first_kernel}
use Rattle.lx_model.specs.Machine.{Machine, IsMachine}
use Rattle.lx_proc.specs.declared.state.Shared.{Shared}
use Rattle.lx_proc.specs.declared.state.UserState.{UserState}
use Rattle.lx_turn.specs.Linux.{linux}
use Rattle.pt_kernel.specs.Seen.{next_of_host}
use Rattle.pt_model.specs.Attending.{Schedules}
use Rattle.pt_model.specs.Headline.{IsTold, traced_run, plain_run}
use Rattle.pt_model.specs.Laws.{NoKillNoLoss}
use Rattle.pt_model.specs.Parts as parts_of
use Rattle.pt_model.specs.Ptrace.{is_there}
use Rattle.pt_model.specs.Tracer.{Focus, Over, request}
use Rattle.pt_model.specs.View.{view, has_exit, traced, parts}
use Rattle.pt_model.specs.World.{World, happens, effective, first_world}
use Rattle.pt_schedule.specs.declared.schedule.Schedule.{Schedule}
use Rattle.tr_core.specs.Settings.{options_by, layout_by}
use Rattle.tr_core.specs.declared.settings.Options.{Options}
use Rattle.tr_line.specs.Lines.{rendering}
use Rattle.trace_run.specs.BootedRuns.{following, RunOf, LinuxRunsTell, LinuxRefusedRunsTell}
use Rattle.trace_run.specs.Local.{Feeds, LocalRun}
use Rattle.trace_run.specs.Results.{kernel_by, log_by, TellsItems, PlainRuns, ReplacedRuns, JoinedRuns, KilledRuns, RunsAreOne, TracesAreRuns, TracesTellLog}
use Rattle.trace_run.specs.Runs.{Answers}
use Rattle.trace_run.specs.Tells.{shown_text, Tells, RunsTell, RefusedRunsTell}
use Rattle.trace_run.specs.declared.local.Run.{Run}
use Rattle.trace_run.specs.declared.running.Ended.{Ended}
use Rattle.trace_run.specs.declared.running.Ended.TheVariants.{Whole, OutOfTurns}
use Rattle.trace_run.proofs.Claimed.{told_by_log}

-- by the untraced kernel of the run's own turns
told_items : (boot : Boot) (schedule : Schedule) (script : List Rule) (options : Options) (run : Run) (r : RunOf boot schedule script options run) → TellsItems boot script options (view r.lost (log_by boot script run.turns)) run
told_items boot schedule script options run r =
    let o : Options = following options boot.follow in
    let s : Shared = first_shared boot.limits boot.files boot.input in
    let b : UserState = booted boot.argv boot.env in
    let same : kernel_by boot script run.turns ≡ plain_run linux outcome_in (options_by o) (choice_of script) s b r.events =
    ap (λ (turns : List ℕ). kernel_run linux (choice_of script) boot.follow (first_kernel s b) turns) r.turned in
    record {
      same_outcome = r.same_outcome ∙ ap (λ (k : Kernel Shared UserState). outcome_in k.shared) (sym same);
      later = r.later;
      begins = r.begins ∙ ap (λ (k : Kernel Shared UserState). rendering (layout_by o) (parts (options_by o) (view r.lost (traced boot.follow k.log)))) (sym same);
      whole = λ y e.
          let w = r.whole y e in
          (w.0, w.1, subst (λ (k : Kernel Shared UserState). (q : ℕ) → 1 ≤ q → q < k.child → traces boot.follow q ≡ true → has_exit q k.log ≡ true) (sym same) w.2);
    }

pub killed_runs : KilledRuns
killed_runs boot schedule script options run r = (r.lost, told_items boot schedule script options run r)

pub joined_runs : NoKillNoLoss → JoinedRuns
joined_runs no_loss boot schedule script options run r alive =
    subst (λ (items : List Noted). TellsItems boot script options items run) (no_loss r.lost (log_by boot script run.turns) alive) (told_items boot schedule script options run r)

pub replaced_runs : NoKillNoLoss → ReplacedRuns
replaced_runs no_loss boot schedule script none options run = joined_runs no_loss boot schedule script options run

pub plain_runs : NoKillNoLoss → PlainRuns
plain_runs no_loss boot schedule options run = joined_runs no_loss boot schedule [] options run

-- what a schedule gave
event_of : {X : Type 0} → Event → Option (Event × X) → Event
event_of e None = e
event_of e (Some x) = x.0

left_of : {X : Type 0} → X → Option (Event × X) → X
left_of y None = y
left_of y (Some x) = x.1

module _ {X S B : Type 0} (choose : Schedules X S B) (m : Machine S B) (outcome : S → Outcome) (o : parts_of.Options) (script : Script) where
  -- it gives one list of events
  pub one_feed : (es fs : List Event) (x : X) (w : World S B) → Feeds choose m outcome o script x w es → Feeds choose m outcome o script x w fs → es ≡ fs
  unfolding event_of left_of
  one_feed [] [] x w g h = refl
  one_feed [] (f ∷ fs) x w (inl none) h = absurd (cc (sym h.1.0 ∙ ap is_there none))
  one_feed [] (f ∷ fs) x w (inr over) h = absurd (cc (sym over ∙ h.1.1))
  one_feed (e ∷ es) [] x w g (inl none) = absurd (cc (sym g.1.0 ∙ ap is_there none))
  one_feed (e ∷ es) [] x w g (inr over) = absurd (cc (sym over ∙ g.1.1))
  one_feed (e ∷ es) (f ∷ fs) x w g h =
      let same : Some (e, g.0) ≡ Some (f, h.0) = sym g.1.1 ∙ h.1.1 in
      let here : e ≡ f = ap (event_of e) same in
      let on : g.0 ≡ h.0 = ap (left_of g.0) same in
      let after : Feeds choose m outcome o script h.0 (happens m outcome o script w f) es =
      subst (λ y. Feeds choose m outcome o script y (happens m outcome o script w f) es) on (subst (λ z. Feeds choose m outcome o script g.0 (happens m outcome o script w z) es) here g.1.2) in
      ap₂ (λ z zs. z ∷ zs) here (one_feed es fs h.0 (happens m outcome o script w f) after h.1.2)

  -- whole by the reply to Outcome, else while something is asked
  asked_or : (f : Focus) (y : Outcome) → f ≡ Over y → is_there (request o f) ≡ true → ⊥
  asked_or f y e h = cc (sym (ap (λ z. is_there (request o z)) e) ∙ h)

module _ {X S B : Type 0} (choose : Schedules X S B) (m : Machine S B) (outcome : S → Outcome) (o : Options) (script : Script) (x : X) (s : S) (b : B) where
  one_end : (ended ended' : Ended) (trace trace' : List ℕ) (left left' : Outcome) (turns turns' : List ℕ)
      → (k : LocalRun choose m outcome o script x s b ended trace left turns) (l : LocalRun choose m outcome o script x s b ended' trace' left' turns')
      → k.events ≡ l.events → left ≡ left' → ended ≡ ended'
  one_end (Whole y) (Whole z) trace trace' left left' turns turns' k l same out = ap (λ v. Whole v) ((k.whole y refl).0 ∙ out ∙ sym (l.whole z refl).0)
  one_end (Whole y) OutOfTurns trace trace' left left' turns turns' k l same out =
      absurd (asked_or choose m outcome (options_by o) script _ y (k.told y refl) (ap (λ es. is_there (request (options_by o) (traced_run m outcome (options_by o) script s b es).tracer.focus)) same ∙ l.out_of_turns refl))
  one_end OutOfTurns (Whole z) trace trace' left left' turns turns' k l same out =
      absurd (asked_or choose m outcome (options_by o) script _ z (l.told z refl) (ap (λ es. is_there (request (options_by o) (traced_run m outcome (options_by o) script s b es).tracer.focus)) (sym same) ∙ k.out_of_turns refl))
  one_end OutOfTurns OutOfTurns trace trace' left left' turns turns' k l same out = refl

  trace_end : (ended' ended : Ended) (trace : List ℕ) (left : Outcome) (turns : List ℕ) (events : List Event) (old new : Option (List ℕ))
      → (k : LocalRun choose m outcome o script x s b ended trace left turns) (t : Tells m outcome o script s b events (Ok ended') old new)
      → k.events ≡ events → ended' ≡ ended
  trace_end (Whole y) (Whole z) trace left turns events old new k t same =
      ap (λ v. Whole v) ((t.whole y refl).same_outcome ∙ ap (λ es. outcome (plain_run m outcome (options_by o) script s b es).shared) (sym same) ∙ sym k.same_outcome ∙ sym (k.whole z refl).0)
  trace_end (Whole y) OutOfTurns trace left turns events old new k t same =
      absurd (asked_or choose m outcome (options_by o) script _ y (t.whole y refl).told (ap (λ es. is_there (request (options_by o) (traced_run m outcome (options_by o) script s b es).tracer.focus)) (sym same) ∙ k.out_of_turns refl))
  trace_end OutOfTurns (Whole z) trace left turns events old new k t same =
      absurd (asked_or choose m outcome (options_by o) script _ z (k.told z refl) (ap (λ es. is_there (request (options_by o) (traced_run m outcome (options_by o) script s b es).tracer.focus)) same ∙ t.out_of_turns refl))
  trace_end OutOfTurns OutOfTurns trace left turns events old new k t same = refl

  one_trace : (ended' ended : Ended) (trace : List ℕ) (left : Outcome) (turns : List ℕ) (events : List Event) (old new : Option (List ℕ))
      → LocalRun choose m outcome o script x s b ended trace left turns → Feeds choose m outcome (options_by o) script x (first_world s b) events → Tells m outcome o script s b events (Ok ended') old new
      → (ended' ≡ ended) × Appends old new trace
  one_trace ended' ended trace left turns events old new k fed t =
      let same : k.events ≡ events = one_feed choose m outcome (options_by o) script k.events events x (first_world s b) k.given fed in
      (trace_end ended' ended trace left turns events old new k t same, subst (Appends old new) (ap (λ es. shown_text m outcome o script s b es) (sym same) ∙ sym k.shown) t.shown)

  record IsSame (ended ended' : Ended) (trace trace' : List ℕ) (left left' : Outcome) (turns turns' : List ℕ) : Type 0 where
    pub ended_so : ended ≡ ended'
    pub trace_is : trace ≡ trace'
    pub left_is : left ≡ left'
    pub turns_are : turns ≡ turns'

  one_run : (ended ended' : Ended) (trace trace' : List ℕ) (left left' : Outcome) (turns turns' : List ℕ)
      → LocalRun choose m outcome o script x s b ended trace left turns → LocalRun choose m outcome o script x s b ended' trace' left' turns'
      → IsSame ended ended' trace trace' left left' turns turns'
  one_run ended ended' trace trace' left left' turns turns' k l =
      let same : k.events ≡ l.events = one_feed choose m outcome (options_by o) script k.events l.events x (first_world s b) k.given l.given in
      let out : left ≡ left' = k.same_outcome ∙ ap (λ es. outcome (plain_run m outcome (options_by o) script s b es).shared) same ∙ sym l.same_outcome in
      record {
        ended_so = one_end ended ended' trace trace' left left' turns turns' k l same out;
        trace_is = k.shown ∙ ap (λ es. shown_text m outcome o script s b es) same ∙ sym l.shown;
        left_is = out;
        turns_are = k.turned ∙ ap (λ es. effective m outcome (options_by o) script (first_world s b) es) same ∙ sym l.turned;
      }

pub runs_are_one : RunsAreOne
runs_are_one boot schedule script options a b k l =
    let x = one_run next_of_host linux outcome_in (following options boot.follow) (choice_of script) schedule (first_shared boot.limits boot.files boot.input) (booted boot.argv boot.env) a.ended b.ended a.trace b.trace a.outcome b.outcome a.turns b.turns k l in
    record { ended = x.ended_so; trace = x.trace_is; outcome = x.left_is; turns = x.turns_are }

pub traces_are_runs : TracesAreRuns
traces_are_runs boot schedule script options run ended old new r t =
    one_trace next_of_host linux outcome_in (following options boot.follow) (choice_of script) schedule (first_shared boot.limits boot.files boot.input) (booted boot.argv boot.env) ended run.ended run.trace run.outcome run.turns t.events old.contents new.contents r t.fed t.tells

pub traces_tell_log : NoKillNoLoss → TracesTellLog
traces_tell_log no_loss boot schedule script options result old new t alive =
    told_by_log linux outcome_in (following options boot.follow) (choice_of script) (first_shared boot.limits boot.files boot.input) (booted boot.argv boot.env) t.events result old.contents new.contents no_loss t.tells alive

pub linux_runs_tell : {L : Type 0} (answers : Answers L) → RunsTell Shared UserState answers → IsMachine linux → IsTold linux → LinuxRunsTell answers
unfolding LinuxRunsTell RunsTell
linux_runs_tell answers tells machine told boot script o link link' old new result w events own =
    tells o (choice_of script) link link' old new result w linux machine told outcome_in (first_shared boot.limits boot.files boot.input) (booted boot.argv boot.env) events own

pub linux_refused_runs_tell : {L : Type 0} (answers : Answers L) → RefusedRunsTell Shared UserState answers → IsMachine linux → IsTold linux → LinuxRefusedRunsTell answers
unfolding LinuxRefusedRunsTell RefusedRunsTell
linux_refused_runs_tell answers tells machine told boot script o link link' old new w events own =
    tells o (choice_of script) link link' old new w linux machine told outcome_in (first_shared boot.limits boot.files boot.input) (booted boot.argv boot.env) events own
