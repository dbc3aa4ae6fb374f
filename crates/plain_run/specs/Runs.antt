-- A run of the untraced kernel by a schedule: each turn is the one that the schedule gives, up to its end.
use Rattle.std.specs.Prelude.{◌≡◌, ℕ, Bool, true, List, [], ◌∷◌, Some, None}
use Rattle.lx_kernel.specs.Runs.{Run, after_turn}
use Rattle.lx_kernel.specs.Laws.{after_all}
use Rattle.pt_schedule.specs.declared.schedule.Schedule.{Schedule}
use Rattle.pt_schedule.specs.Schedules.{next_turn_of}
use Rattle.pt_schedule.specs.Untraced.{readiness_of}
use Rattle.plain_run.specs.declared.running.Halt.{Halt}
use Rattle.plain_run.specs.declared.running.Halt.TheVariants.{Memory, Weary}

-- these processes have the turns, and after them there is none
abbrev pub IsRun : Run → Schedule → List ℕ → Run → Type 0
IsRun k s [] z = ((next_turn_of s (readiness_of k)).pid ≡ None) × (z ≡ k)
IsRun k s (p ∷ ps) z =
    ((next_turn_of s (readiness_of k)).pid ≡ Some p)
    × IsRun (after_turn k p) (next_turn_of s (readiness_of k)).schedule ps z

-- the kernel k comes to z by this schedule
pub record RunsTo (k : Run) (s : Schedule) (z : Run) : Type 0 where
  pub pids : List ℕ
  pub is_run : IsRun k s pids z

-- why a run ended before its schedule
abbrev pub IsCause : Bool → Bool → Halt → Type 0
IsCause failed weary Memory = failed ≡ true
IsCause failed weary Weary = weary ≡ true

-- The laws

abbrev pub EndsAreSettled : Type 0
EndsAreSettled = (k : Run) (s : Schedule) (y z : Run) → RunsTo k s y → RunsTo k s z → y ≡ z

-- a kernel that keeps its log keeps it to the end
abbrev pub RunsKeepLogs : Type 0
RunsKeepLogs = (k : Run) (s : Schedule) (z : Run) → RunsTo k s z → z.keeps_log ≡ k.keeps_log

-- and whether it is kept changes nothing else of a run
abbrev pub RunsGoAlike : Type 0
RunsGoAlike =
    (keeps : Bool) (k : Run) (s : Schedule) (z : Run) → RunsTo k s z
    → RunsTo (record k { keeps_log = keeps }) s (record z { keeps_log = keeps })

abbrev pub RunsAreTurns : Type 0
RunsAreTurns = (k : Run) (s : Schedule) (z : Run) (to : RunsTo k s z) → z ≡ after_all k to.pids
