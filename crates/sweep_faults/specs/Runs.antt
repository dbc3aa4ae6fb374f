-- A run of the kernel by a schedule, in which one call of one process fails.
use Rattle.std.specs.Prelude.{◌≡◌, ℕ, true, cond, List, [], ◌∷◌, Option, Some, None}
use Rattle.lx_abi.specs.declared.errno.Errno.{Errno}
use Rattle.lx_abi.specs.declared.script.Rule.{Rule}
use Rattle.lx_kernel.specs.Laws.{after_all}
use Rattle.lx_kernel.specs.Runs.{Run}
use Rattle.pt_schedule.specs.declared.schedule.Schedule.{Schedule}
use Rattle.pt_schedule.specs.Schedules.{next_turn_of}
use Rattle.pt_schedule.specs.Untraced.{readiness_of}
use Rattle.plain_run.specs.Runs.{RunsTo}
use Rattle.sweep_rows.specs.Failures.{FailsAlone}
use Rattle.sweep_faults.specs.declared.faults.Fault.{Fault}
use Rattle.sweep_faults.specs.Faults.{after_fault, ends_at, error_of, is_stop}
use Rattle.sweep_faults.specs.Words.{failure_of, HasWords}

-- whose turn comes next, by what the schedule gives: nobody's, where everything ends
abbrev pub unless_ended : Fault → Run → Option ℕ → Option ℕ
unless_ended f k None = None
unless_ended f k (Some p) = cond (ends_at f k p) None (Some p)

abbrev pub next_pid : Fault → Run → Schedule → Option ℕ
next_pid f k s = unless_ended f k (next_turn_of s (readiness_of k)).pid

-- these processes have the turns, and after them there is none
abbrev pub IsFaulted : Fault → Run → Schedule → List ℕ → Run → Type 0
IsFaulted f k s [] z = (next_pid f k s ≡ None) × (z ≡ k)
IsFaulted f k s (p ∷ ps) z =
    (next_pid f k s ≡ Some p) × IsFaulted f (after_fault f k p) (next_turn_of s (readiness_of k)).schedule ps z

-- the kernel k comes to z by this schedule, where that call fails, and nothing else is otherwise
pub record RunsFaulted (f : Fault) (k : Run) (s : Schedule) (z : Run) : Type 0 where
  pub pids : List ℕ
  pub is_run : IsFaulted f k s pids z

-- The laws

abbrev pub EndsAreSettled : Type 0
EndsAreSettled = (f : Fault) (k : Run) (s : Schedule) (y z : Run) → RunsFaulted f k s y → RunsFaulted f k s z → y ≡ z

-- a kernel that keeps its log keeps it to the end
abbrev pub RunsKeepLogs : Type 0
RunsKeepLogs = (f : Fault) (k : Run) (s : Schedule) (z : Run) → RunsFaulted f k s z → z.keeps_log ≡ k.keeps_log

-- where everything ends at an entry, each turn before it is the kernel's own
abbrev pub StopsAreTurns : Type 0
StopsAreTurns =
    (f : Fault) (k : Run) (s : Schedule) (z : Run) → is_stop f.kind ≡ true → (to : RunsFaulted f k s z)
    → z ≡ after_all k to.pids

-- where the failure has words, a script of these comes to the same
abbrev pub WordsGiveRuns : Type 0
WordsGiveRuns =
    (f : Fault) (error : Errno) (script : List Rule) (k : Run) (s : Schedule) (z : Run) → k.script ≡ []
    → error_of f.kind ≡ Some error → FailsAlone (failure_of f error) script → HasWords k.follow f z.running.log
    → RunsFaulted f k s z
    → RunsTo (record k { script = script }) s (record z { script = script })
