-- Traced runs by the words of turns.
use Rattle.std.specs.Prelude.{◌≡◌, ◌⊎◌, ℕ, ◌≤◌, List, length, true}
use Rattle.lx_abi.specs.declared.boot.Boot.{Boot}
use Rattle.lx_abi.specs.declared.outcome.Outcome.{Outcome}
use Rattle.lx_abi.specs.declared.script.Rule.{Rule}
use Rattle.lx_abi.specs.Scripts.{choice_of}
use Rattle.lx_boot.specs.First.{first_shared}
use Rattle.lx_exec.specs.Programs.{booted}
use Rattle.lx_kernel.specs.First.{first_run}
use Rattle.lx_kernel.specs.Laws.{after_all}
use Rattle.lx_kernel.specs.Outcomes.{outcome_in}
use Rattle.lx_proc.specs.declared.state.Shared.{Shared}
use Rattle.lx_proc.specs.declared.state.UserState.{UserState}
use Rattle.lx_turn.specs.Linux.{linux}
use Rattle.pt_model.specs.Attending.{Schedules}
use Rattle.pt_schedule.specs.Eager.{turn_words}
use Rattle.pt_schedule.specs.Schedules.{most_events, worded}
use Rattle.tr_core.specs.declared.settings.Options.{Options}
use Rattle.trace_run.specs.BootedRuns.{RunOf, following}
use Rattle.trace_run.specs.Local.{LocalRun}
use Rattle.trace_run.specs.declared.local.Run.{Run}
use Rattle.trace_run.specs.declared.running.Ended.{Ended}
use Rattle.trace_run.specs.declared.running.Ended.TheVariants.{Whole}
use Rattle.eager_runs.specs.Runs.{Begins}

-- A run by the words of any turns makes these turns, up to where its tracer ends, or goes on after them.
unfoldable pub ReplaysGoOn : Type 0
ReplaysGoOn = (boot : Boot) (script : List Rule) (options : Options) (turns : List ℕ) (limit n : ℕ) (run : Run)
    → RunOf boot (worded (turn_words turns) limit) script options run
    → length turns ≤ n → length run.turns ≤ n → n ≤ most_events
    → Begins turns run.turns ⊎ Begins run.turns turns

-- the same outcome, and the untraced kernel by these turns and those has logged the same
pub record SameLeft (boot : Boot) (script : List Rule) (left left' : Outcome) (turns turns' : List ℕ) : Type 0 where
  pub outcome : left' ≡ left
  pub log : (after_all (first_run boot script) turns').running.log
      ≡ (after_all (first_run boot script) turns).running.log

-- A run by any events, on threads too, and one by the words of its turns: where both are whole, and every process is
-- traced, they leave the same.
unfoldable pub ReplaysLeaveTheSame : Type 0 → Type 0
ReplaysLeaveTheSame X = (boot : Boot) (script : List Rule) (options : Options) → boot.follow ≡ true
    → (choose : Schedules X Shared UserState) (by : X) (ended : Ended) (trace : List ℕ) (left : Outcome)
    (turns : List ℕ)
    → LocalRun choose linux outcome_in (following options boot.follow) (choice_of script) by
    (first_shared boot.limits boot.files boot.input) (booted boot.argv boot.env) ended trace left turns
    → (x : Outcome) → ended ≡ Whole x
    → (limit n : ℕ) (run : Run) → RunOf boot (worded (turn_words turns) limit) script options run
    → (y : Outcome) → run.ended ≡ Whole y
    → length turns ≤ n → length run.turns ≤ n → n ≤ most_events
    → SameLeft boot script left run.outcome turns run.turns
