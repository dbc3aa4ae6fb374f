-- A row of a sweep is shown by the sweep's words.
use Rattle.std.proofs.Common.{◌⊎◌, ⊎_elim, ℕ, List, length, sym, subst}
use mathlib.Core.Path.{fun_ext}
use Rattle.lx_abi.specs.declared.boot.Boot.{Boot}
use Rattle.lx_abi.specs.declared.schedule.Word.{Word}
use Rattle.lx_boot.specs.First.{first_shared}
use Rattle.lx_exec.specs.Programs.{booted}
use Rattle.lx_kernel.specs.Outcomes.{outcome_in}
use Rattle.lx_model.specs.Kernel.{Script}
use Rattle.lx_turn.specs.Linux.{linux}
use Rattle.pt_kernel.specs.Seen.{next_of_host}
use Rattle.pt_schedule.specs.Schedules.{worded}
use Rattle.tr_core.specs.declared.settings.Options.{Options}
use Rattle.trace_run.specs.BootedRuns.{following}
use Rattle.trace_run.specs.Local.{LocalRun}
use Rattle.trace_run.specs.declared.local.Run.{Run}
use Rattle.eager_runs.specs.Runs.{EndsAlike, EagerRuns, StuckRuns}
use Rattle.eager_runs.specs.Rows.{EndsByItself, RowsAreShown}

-- a run by these choices
abbrev Chosen : Boot → List Word → ℕ → Options → Run → Script → Type 0
Chosen boot ws limit options run choices =
    LocalRun next_of_host linux outcome_in (following options boot.follow) choices (worded ws limit)
    (first_shared boot.limits boot.files boot.input) (booted boot.argv boot.env) run.ended run.trace run.outcome
    run.turns

pub rows_shown : EagerRuns → StuckRuns → RowsAreShown
unfolding RowsAreShown EagerRuns StuckRuns
rows_shown runs stuck boot row script options follow same ws eager limit n z to run of ends l most =
    subst (λ (c : Script). (by : Chosen boot ws limit options run c) → EndsByItself run.ended (length by.events) limit → EndsAlike boot row run z)
    (sym (fun_ext (λ call. fun_ext (λ m. same call m))))
    (λ by way. ⊎_elim (λ w. (runs boot row options ws eager limit n run by l most).ends w.0 w.1 follow z to) (λ s. (stuck boot row options ws eager limit n run by s.0 s.1 l most z to).1) way)
    of ends
