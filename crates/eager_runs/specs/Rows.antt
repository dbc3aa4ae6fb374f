-- Rows of a sweep, each a run of the untraced kernel, and traced runs by the sweep's words.
use Rattle.std.specs.Prelude.{◌≡◌, ◌⊎◌, ℕ, ◌≤◌, ◌<◌, min, List, length, true}
use Rattle.lx_abi.specs.declared.boot.Boot.{Boot}
use Rattle.lx_abi.specs.declared.outcome.Outcome.{Outcome}
use Rattle.lx_abi.specs.declared.schedule.Word.{Word}
use Rattle.lx_abi.specs.declared.script.Rule.{Rule}
use Rattle.lx_abi.specs.Scripts.{choice_of}
use Rattle.lx_kernel.specs.First.{first_run}
use Rattle.lx_kernel.specs.Runs.{Run as KernelRun}
use Rattle.pt_schedule.specs.Eager.{are_eager}
use Rattle.pt_schedule.specs.Schedules.{most_events, worded}
use Rattle.plain_run.specs.Runs.{RunsTo}
use Rattle.tr_core.specs.declared.settings.Options.{Options}
use Rattle.trace_run.specs.BootedRuns.{RunOf}
use Rattle.trace_run.specs.declared.local.Run.{Run}
use Rattle.trace_run.specs.declared.running.Ended.{Ended}
use Rattle.trace_run.specs.declared.running.Ended.TheVariants.{Whole, OutOfTurns}
use Rattle.eager_runs.specs.Runs.{EndsAlike}

-- whole, or out of turns after fewer events than were allowed
abbrev pub EndsByItself : Ended → ℕ → ℕ → Type 0
EndsByItself ended events limit =
    ((x : Outcome) × (ended ≡ Whole x)) ⊎ ((ended ≡ OutOfTurns) × (events < min limit most_events))

-- Under a script that chooses as the row's does, a traced run by the sweep's words that its limit didn't cut ends as
-- the row's run, where every process is traced and the row's turns were enough.
unfoldable pub RowsAreShown : Type 0
RowsAreShown = (boot : Boot) (row script : List Rule) (options : Options) → boot.follow ≡ true
    → ((call n : ℕ) → choice_of script call n ≡ choice_of row call n)
    → (ws : List Word) → are_eager ws ≡ true
    → (limit n : ℕ) (z : KernelRun) → RunsTo (first_run boot row) (worded ws n) z
    → (run : Run) (of : RunOf boot (worded ws limit) script options run)
    → EndsByItself run.ended (length of.events) limit → length run.turns ≤ n → n ≤ most_events
    → EndsAlike boot row run z
