-- Whole runs by words `p` and `p.`.
use Rattle.std.proofs.Common.{◌≡◌, ◌⊎◌, inl, inr, ⊎_elim, ℕ, ◌≤◌, Bool, true, false, List, [], ◌∷◌, ◌++◌, length, Option, Some, None, refl, sym, ap, subst, ◌∙◌}
use Rattle.lx_abi.specs.declared.boot.Boot.{Boot}
use Rattle.lx_abi.specs.declared.outcome.Outcome.{Outcome}
use Rattle.lx_abi.specs.declared.schedule.Event.{Event}
use Rattle.lx_abi.specs.declared.script.Rule.{Rule}
use Rattle.lx_abi.specs.Scripts.{choice_of}
use Rattle.lx_boot.specs.First.{first_shared}
use Rattle.lx_exec.specs.Programs.{booted}
use Rattle.lx_kernel.specs.First.{first_run}
use Rattle.lx_kernel.specs.Laws.{after_all, BootsRunAlike}
use Rattle.lx_abi.specs.Log.{items_of}
use Rattle.lx_kernel.specs.Outcomes.{outcome_in}
use Rattle.lx_kernel.specs.Runs.{Run as KernelRun, after_turn}
use Rattle.lx_model.specs.Kernel.{Script, Kernel, traces, kernel_run, first_kernel}
use Rattle.lx_proc.specs.declared.state.Shared.{Shared}
use Rattle.lx_proc.specs.declared.state.UserState.{UserState}
use Rattle.lx_turn.specs.Linux.{linux}
use Rattle.pt_kernel.specs.Seen.{next_of_host}
use Rattle.pt_model.specs.Headline.{IsPast, traced_run, plain_run}
use Rattle.pt_model.specs.Parts as parts_of
use Rattle.pt_model.specs.Tracer.{Focus, Over}
use Rattle.pt_model.specs.World.{World, happens, effective, first_world}
use Rattle.pt_schedule.specs.declared.schedule.Schedule.{Schedule}
use Rattle.pt_schedule.specs.Schedules.{GivenTurn, next_turn_of, worded}
use Rattle.pt_schedule.specs.Untraced.{readiness_of}
use Rattle.plain_run.specs.Runs.{IsRun, RunsTo, RunsAreTurns}
use Rattle.pt_model.specs.Laws.{is_alive}
use Rattle.eager_runs.proofs.Quiet.{SameLeft, quiet, run_append}
use Rattle.tr_core.specs.Laws.{TextsAreWhole}
use Rattle.tr_core.specs.Settings.{options_by, layout_by}
use Rattle.tr_core.specs.declared.settings.Options.{Options}
use Rattle.tr_line.specs.Lines.{rendering}
use Rattle.tr_line.specs.Printing.{RenderingGrows}
use Rattle.trace_run.specs.BootedRuns.{following}
use Rattle.trace_run.specs.Local.{Feeds}
use Rattle.trace_run.specs.declared.local.Run.{Run}
use Rattle.pt_schedule.specs.Eager.{GivesTurns}
use Rattle.pt_kernel.specs.Eager.{GivesEvents, EagerTurns, EagerTurnsArePlain}
use Rattle.eager_runs.specs.Runs.{Begins, log_text, EndsAlike, EagerRuns}

-- Turns that a schedule gives

pub one_pid : (x : Option ℕ) (p q : ℕ) → x ≡ Some p → x ≡ Some q → p ≡ q
one_pid x p q e f = cc (sym e ∙ f)

pub no_pid : (x : Option ℕ) (p : ℕ) → x ≡ None → x ≡ Some p → ⊥
no_pid x p e f = cc (sym e ∙ f)

begin_run : (ps qs : List ℕ) (k : KernelRun) (s : Schedule) (z y : KernelRun) (t : Schedule) → GivesTurns k s ps z t → IsRun k s qs y → Begins ps qs
begin_run [] qs k s z y t g h = (qs, refl)
begin_run (p ∷ ps) [] k s z y t g h = absurd (no_pid (next_turn_of s (readiness_of k)).pid p h.0 g.0)
begin_run (p ∷ ps) (q ∷ qs) k s z y t g h =
    let next : GivenTurn = next_turn_of s (readiness_of k) in
    let same : p ≡ q = one_pid next.pid p q g.0 h.0 in
    let more : Begins ps qs = begin_run ps qs (after_turn k p) next.schedule z y t g.1 (subst (λ x. IsRun (after_turn k x) next.schedule qs y) (sym same) h.1) in
    (more.0, ap (λ l. p ∷ l) more.1 ∙ ap (λ x. x ∷ qs) same)

pub one_begins : (ps qs : List ℕ) (k : KernelRun) (s : Schedule) (z y : KernelRun) (t u : Schedule) → GivesTurns k s ps z t → GivesTurns k s qs y u → Begins ps qs ⊎ Begins qs ps
one_begins [] qs k s z y t u g h = inl (qs, refl)
one_begins (p ∷ ps) [] k s z y t u g h = inr (p ∷ ps, refl)
one_begins (p ∷ ps) (q ∷ qs) k s z y t u g h =
    let next : GivenTurn = next_turn_of s (readiness_of k) in
    let same : p ≡ q = one_pid next.pid p q g.0 h.0 in
    ⊎_elim
    (λ (b : Begins ps qs). inl (b.0, ap (λ l. p ∷ l) b.1 ∙ ap (λ x. x ∷ qs) same))
    (λ (b : Begins qs ps). inr (b.0, ap (λ l. q ∷ l) b.1 ∙ ap (λ x. x ∷ ps) (sym same)))
    (one_begins ps qs (after_turn k p) next.schedule z y t u g.1 (subst (λ x. GivesTurns (after_turn k x) next.schedule qs y u) (sym same) h.1))

-- Events that feed a world are given

abbrev pub fed_given : (o : parts_of.Options) (script : Script) (es : List Event) (x : Schedule) (w : World Shared UserState) → Feeds next_of_host linux outcome_in o script x w es → (y : Schedule) × GivesEvents o script x w es y
fed_given o script [] x w f = (x, refl)
fed_given o script (e ∷ es) x w f =
    let more = fed_given o script es f.0 (happens linux outcome_in o script w e) f.1.2 in
    (more.0, (f.0, (f.1.0, f.1.1, more.1)))

-- Runs

pub past_over : (f : Focus) (x : Outcome) → f ≡ Over x → IsPast f
past_over f x e = subst (λ y. IsPast y) (sym e) tt

-- the untraced kernel by more turns, where nobody lives
ends_alike : BootsRunAlike → RunsAreTurns → (boot : Boot) (script : List Rule) (run : Run) (s : Schedule) (z : KernelRun) (to : RunsTo (first_run boot script) s z)
    → Begins run.turns to.pids
    → ((q : ℕ) → is_alive ((kernel_run linux (choice_of script) boot.follow (first_kernel (first_shared boot.limits boot.files boot.input) (booted boot.argv boot.env)) run.turns).tasks q) ≡ false)
    → run.outcome ≡ outcome_in (kernel_run linux (choice_of script) boot.follow (first_kernel (first_shared boot.limits boot.files boot.input) (booted boot.argv boot.env)) run.turns).shared
    → EndsAlike boot script run z
ends_alike alike turns boot script run s z to more none left =
    let first : Kernel Shared UserState = first_kernel (first_shared boot.limits boot.files boot.input) (booted boot.argv boot.env) in
    let k : Kernel Shared UserState = kernel_run linux (choice_of script) boot.follow first run.turns in
    let y : Kernel Shared UserState = kernel_run linux (choice_of script) boot.follow first to.pids in
    let all : y ≡ kernel_run linux (choice_of script) boot.follow k more.0 = ap (kernel_run linux (choice_of script) boot.follow first) (sym more.1) ∙ run_append (choice_of script) boot.follow run.turns more.0 first in
    let still : SameLeft k (kernel_run linux (choice_of script) boot.follow k more.0) = quiet (choice_of script) boot.follow more.0 k none in
    let end : z ≡ after_all (first_run boot script) to.pids = turns (first_run boot script) s z to in
    record {
      outcome = ap (λ (r : KernelRun). outcome_in r.running.shared) end ∙ ap outcome_in (alike boot script to.pids).shared ∙ ap (λ (x : Kernel Shared UserState). outcome_in x.shared) all ∙ still.outcome ∙ sym left;
      log = ap (λ (r : KernelRun). r.running.log) end ∙ (alike boot script to.pids).log ∙ ap (λ (x : Kernel Shared UserState). items_of x.log) all ∙ ap items_of still.log ∙ sym (alike boot script run.turns).log;
    }

pub all_traced : (f : Bool) → f ≡ true → (q : ℕ) → traces f q ≡ true
all_traced true e q = refl
all_traced false e q = absurd (cc e)

module _ (alike : BootsRunAlike) (are_turns : RunsAreTurns) (plain : EagerTurnsArePlain) (whole : TextsAreWhole) (grows : RenderingGrows) where
  pub eager_runs : EagerRuns
  unfolding EagerRuns EagerTurnsArePlain
  eager_runs boot script options ws eager limit n run of l most =
      let o : Options = following options boot.follow in
      let s : Shared = first_shared boot.limits boot.files boot.input in
      let b : UserState = booted boot.argv boot.env in
      let turns : List ℕ = effective linux outcome_in (options_by o) (choice_of script) (first_world s b) of.events in
      let given = fed_given (options_by o) (choice_of script) of.events (worded ws limit) (first_world s b) of.given in
      let it : EagerTurns (options_by o) (first_run boot script) ws n (traced_run linux outcome_in (options_by o) (choice_of script) s b of.events) turns given.0 (plain_run linux outcome_in (options_by o) (choice_of script) s b of.events) =
      plain (options_by o) (whole o.string_limit o.limit_in_range) (first_run boot script) s b refl refl ws eager limit n of.events given.0 given.1 (subst (λ ps. length ps ≤ n) of.turned l) most in
      let gives : GivesTurns (first_run boot script) (worded ws n) run.turns (after_all (first_run boot script) run.turns) it.left =
      subst (λ ps. GivesTurns (first_run boot script) (worded ws n) ps (after_all (first_run boot script) ps) it.left) (sym of.turned) it.given in
      let text : log_text boot script o turns ≡ log_text boot script o run.turns = ap (log_text boot script o) (sym of.turned) in
      let grown = grows (layout_by o) (traced_run linux outcome_in (options_by o) (choice_of script) s b of.events).printed it.shows.tells.later in
      record {
        left = it.left;
        given = gives;
        begins = λ z to. begin_run run.turns to.pids (first_run boot script) (worded ws n) (after_all (first_run boot script) run.turns) z it.left gives to.is_run;
        tells = (grown.later, ap (λ t. t ++ grown.later) of.shown ∙ grown.whole ∙ ap (rendering (layout_by o)) it.shows.tells.begins ∙ text);
        whole = λ x e. of.shown ∙ ap (rendering (layout_by o)) (it.shows.tells.whole (past_over (traced_run linux outcome_in (options_by o) (choice_of script) s b of.events).tracer.focus x (of.told x e))) ∙ text;
        ends = λ x e follows z to. ends_alike alike are_turns boot script run (worded ws n) z to (begin_run run.turns to.pids (first_run boot script) (worded ws n) (after_all (first_run boot script) run.turns) z it.left gives to.is_run)
            (λ q. subst (λ ps. is_alive ((kernel_run linux (choice_of script) boot.follow (first_kernel s b) ps).tasks q) ≡ false) (sym of.turned)
            (it.shows.ended (past_over (traced_run linux outcome_in (options_by o) (choice_of script) s b of.events).tracer.focus x (of.told x e)) q (all_traced boot.follow follows q)))
            (subst (λ ps. run.outcome ≡ outcome_in (kernel_run linux (choice_of script) boot.follow (first_kernel s b) ps).shared) (sym of.turned) of.same_outcome);
      }
