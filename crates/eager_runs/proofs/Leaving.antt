-- Runs, and runs by the words of their turns.
use Rattle.std.proofs.Common.{◌≡◌, ◌⊎◌, ⊎_elim, ℕ, true, false, List, sym, ap, subst, ◌∙◌}
use Rattle.lx_abi.specs.declared.boot.Boot.{Boot}
use Rattle.lx_abi.specs.declared.outcome.Outcome.{Outcome}
use Rattle.lx_abi.specs.declared.script.Rule.{Rule}
use Rattle.lx_abi.specs.Log.{items_of}
use Rattle.lx_abi.specs.Scripts.{choice_of}
use Rattle.lx_boot.specs.First.{first_shared}
use Rattle.lx_exec.specs.Programs.{booted}
use Rattle.lx_kernel.specs.Laws.{BootsRunAlike}
use Rattle.lx_kernel.specs.Outcomes.{outcome_in}
use Rattle.lx_model.specs.Kernel.{Kernel, kernel_run, first_kernel}
use Rattle.lx_model.specs.Machine.{IsMachine}
use Rattle.lx_proc.specs.declared.state.Shared.{Shared}
use Rattle.lx_proc.specs.declared.state.UserState.{UserState}
use Rattle.lx_turn.specs.Linux.{linux}
use Rattle.pt_model.specs.Attending.{Schedules}
use Rattle.pt_model.specs.Headline.{IsTold, traced_run, plain_run}
use Rattle.pt_model.specs.Laws.{is_alive}
use Rattle.pt_model.specs.World.{first_world}
use Rattle.pt_model.proofs.Ties.{Tied, is_past}
use Rattle.pt_model.proofs.Whole.{run_tied, none_left}
use Rattle.tr_core.specs.Laws.{TextsAreWhole}
use Rattle.tr_core.specs.Settings.{options_by}
use Rattle.tr_core.specs.declared.settings.Options.{Options}
use Rattle.trace_run.specs.BootedRuns.{following}
use Rattle.trace_run.specs.Local.{LocalRun}
use Rattle.trace_run.specs.declared.running.Ended.{Ended}
use Rattle.trace_run.specs.declared.running.Ended.TheVariants.{Whole}
use Rattle.eager_runs.specs.Runs.{Begins}
use Rattle.eager_runs.specs.Replays.{ReplaysGoOn, ReplaysLeaveTheSame}
use Rattle.pt_model.proofs.Final.{first_tied}
use Rattle.eager_runs.proofs.Quiet.{SameLeft as Same, quiet, run_append}
use Rattle.eager_runs.proofs.Whole.{all_traced}

module _ (alike : BootsRunAlike) (laws : IsMachine linux) (words : IsTold linux) (whole : TextsAreWhole) (go_on : ReplaysGoOn) where
  abbrev kernel_by : Boot → List Rule → List ℕ → Kernel Shared UserState
  kernel_by boot script turns = kernel_run linux (choice_of script) boot.follow (first_kernel (first_shared boot.limits boot.files boot.input) (booted boot.argv boot.env)) turns

  module _ (boot : Boot) (script : List Rule) (options : Options) (follow : boot.follow ≡ true) where
    abbrev o : Options
    o = following options boot.follow

    abbrev IsRun : {X : Type 0} → Schedules X Shared UserState → X → Ended → List ℕ → Outcome → List ℕ → Type 0
    IsRun choose by ended trace left turns = LocalRun choose linux outcome_in o (choice_of script) by (first_shared boot.limits boot.files boot.input) (booted boot.argv boot.env) ended trace left turns

    nobody : {X : Type 0} (choose : Schedules X Shared UserState) (by : X) (ended : Ended) (trace : List ℕ) (left : Outcome) (turns : List ℕ) → IsRun choose by ended trace left turns → (x : Outcome) → ended ≡ Whole x → (q : ℕ) → is_alive ((kernel_by boot script turns).tasks q) ≡ false
    nobody choose by ended trace left turns of x e q =
        let s : Shared = first_shared boot.limits boot.files boot.input in
        let b : UserState = booted boot.argv boot.env in
        let t : Tied linux (options_by o) (choice_of script) true (traced_run linux outcome_in (options_by o) (choice_of script) s b of.events) (plain_run linux outcome_in (options_by o) (choice_of script) s b of.events) =
        run_tied linux outcome_in (options_by o) (choice_of script) laws words (whole o.string_limit o.limit_in_range) of.events (first_world s b) (first_kernel s b) (first_tied linux (options_by o) (choice_of script) s b true) in
        subst (λ ps. is_alive ((kernel_by boot script ps).tasks q) ≡ false) (sym of.turned)
        (none_left linux (options_by o) (choice_of script) true (traced_run linux outcome_in (options_by o) (choice_of script) s b of.events) (plain_run linux outcome_in (options_by o) (choice_of script) s b of.events) t (ap is_past (of.told x e)) q (all_traced boot.follow follow q))

    left_is : {X : Type 0} (choose : Schedules X Shared UserState) (by : X) (ended : Ended) (trace : List ℕ) (left : Outcome) (turns : List ℕ) → IsRun choose by ended trace left turns → left ≡ outcome_in (kernel_by boot script turns).shared
    left_is choose by ended trace left turns of = of.same_outcome ∙ ap (λ ps. outcome_in (kernel_by boot script ps).shared) (sym of.turned)

    more_left : (ps qs : List ℕ) → Begins ps qs → ((q : ℕ) → is_alive ((kernel_by boot script ps).tasks q) ≡ false) → Same (kernel_by boot script ps) (kernel_by boot script qs)
    more_left ps qs more none =
        subst (λ x. Same (kernel_by boot script ps) x) (sym (run_append (choice_of script) boot.follow ps more.0 _) ∙ ap (kernel_by boot script) more.1)
        (quiet (choice_of script) boot.follow more.0 (kernel_by boot script ps) none)

    either_left : (ps qs : List ℕ) → Begins ps qs ⊎ Begins qs ps → ((q : ℕ) → is_alive ((kernel_by boot script ps).tasks q) ≡ false) → ((q : ℕ) → is_alive ((kernel_by boot script qs).tasks q) ≡ false) → Same (kernel_by boot script ps) (kernel_by boot script qs)
    either_left ps qs way f g = ⊎_elim
        (λ (b : Begins ps qs). more_left ps qs b f)
        (λ (b : Begins qs ps). let back = more_left qs ps b g in record { outcome = sym back.outcome; log = sym back.log })
        way

  pub replays_leave : (X : Type 0) → ReplaysLeaveTheSame X
  unfolding ReplaysLeaveTheSame ReplaysGoOn
  replays_leave X boot script options follow choose by ended trace left turns of x e limit n run again y f few l most =
      let same : Same (kernel_by boot script turns) (kernel_by boot script run.turns) =
      either_left boot script options follow turns run.turns (go_on boot script options turns limit n run again few l most)
      (nobody boot script options follow choose by ended trace left turns of x e)
      (nobody boot script options follow _ _ run.ended run.trace run.outcome run.turns again y f) in
      record {
        outcome = left_is boot script options follow _ _ run.ended run.trace run.outcome run.turns again ∙ same.outcome ∙ sym (left_is boot script options follow choose by ended trace left turns of);
        log = (alike boot script run.turns).log ∙ ap items_of same.log ∙ sym (alike boot script turns).log;
      }
