-- A run in which two calls fail: the first, and another that is entered behind it.
use Rattle.std.specs.Prelude.{◌≡◌, ◌<◌, ◌||◌, ℕ, Bool, cond, List, [], ◌∷◌, Option, Some, None}
use Rattle.lx_abi.specs.Log.{entries}
use Rattle.lx_kernel.specs.Runs.{Run}
use Rattle.pt_schedule.specs.declared.schedule.Schedule.{Schedule}
use Rattle.pt_schedule.specs.Schedules.{next_turn_of}
use Rattle.pt_schedule.specs.Untraced.{readiness_of}
use Rattle.sweep_faults.specs.declared.deep.Deep.{Deep}
use Rattle.sweep_faults.specs.Faults.{after_failing, after_fault, ends_at, is_at}
use Rattle.sweep_faults.specs.Runs.{RunsFaulted}

-- A turn of the process: what happens to the second call, where the process stands at it, and otherwise the turn of a
-- run in which the first fails alone
abbrev pub after_deep : Deep → Run → ℕ → Run
after_deep d k pid = cond (is_at d.second k pid) (after_failing d.second.kind k pid) (after_fault d.first k pid)

-- everything ends there
abbrev pub deep_ends_at : Deep → Run → ℕ → Bool
deep_ends_at d k pid = ends_at d.first k pid || ends_at d.second k pid

abbrev pub unless_deep_ended : Deep → Run → Option ℕ → Option ℕ
unless_deep_ended d k None = None
unless_deep_ended d k (Some p) = cond (deep_ends_at d k p) None (Some p)

-- whose turn comes next
abbrev pub next_deep : Deep → Run → Schedule → Option ℕ
next_deep d k s = unless_deep_ended d k (next_turn_of s (readiness_of k)).pid

-- these processes have the turns, and after them there is none
abbrev pub IsDeep : Deep → Run → Schedule → List ℕ → Run → Type 0
IsDeep d k s [] z = (next_deep d k s ≡ None) × (z ≡ k)
IsDeep d k s (p ∷ ps) z =
    (next_deep d k s ≡ Some p) × IsDeep d (after_deep d k p) (next_turn_of s (readiness_of k)).schedule ps z

-- the kernel k comes to z by this schedule, where these two calls fail, and nothing else is otherwise
pub record RunsDeep (d : Deep) (k : Run) (s : Schedule) (z : Run) : Type 0 where
  pub pids : List ℕ
  pub is_run : IsDeep d k s pids z

-- The laws

abbrev pub DeepEndsAreSettled : Type 0
DeepEndsAreSettled = (d : Deep) (k : Run) (s : Schedule) (y z : Run) → RunsDeep d k s y → RunsDeep d k s z → y ≡ z

-- where the second never comes, it is the run in which the first fails alone
abbrev pub DeepIsFaulted : Type 0
DeepIsFaulted =
    (d : Deep) (k : Run) (s : Schedule) (z : Run)
    → entries d.second.pid d.second.call z.running.log < d.second.n
    → RunsDeep d k s z
    → RunsFaulted d.first k s z
