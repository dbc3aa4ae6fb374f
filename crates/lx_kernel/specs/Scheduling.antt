-- Which process is the next that can take a turn, in the order of pids.
use Rattle.std.specs.Prelude.{◌≡◌, ◌⊎◌, ◌+◌, ℕ, Bool, ◌<◌, ◌≤◌, true, false, Option, Some, None, IsSome}
use Rattle.std.specs.Ordering.{nat_cmp}
use Rattle.std.specs.FinMap.{FinMap}
use Rattle.lx_model.specs.Finite.{at}
use Rattle.lx_model.specs.declared.stage.Task.{Task}
use Rattle.lx_model.specs.declared.stage.Task.TheVariants.{Gone}
use Rattle.lx_proc.specs.declared.state.Shared.{Shared}
use Rattle.lx_proc.specs.declared.state.UserState.{UserState}
use Rattle.lx_kernel.specs.Blocking.{can_turn}
use Rattle.lx_kernel.specs.Runs.{Run, is_able_in}

-- an able process: the first above a pid, or the first of all where none is above
pub record IsNextAble (k : Run) (after pid : ℕ) : Type 0 where
  pub able : is_able_in k pid
  pub above : (q : ℕ) → after < q → is_able_in k q → (after < pid) × (pid ≤ q)
  pub else_first : pid ≤ after → (q : ℕ) → is_able_in k q → pid ≤ q

-- the next able process in the cycle of pids, if there is one
abbrev pub IsNextOf : Run → ℕ → Option ℕ → Type 0
IsNextOf k after None = (q : ℕ) → is_able_in k q → ⊥
IsNextOf k after (Some pid) = IsNextAble k after pid

-- Of what is shared and the table of own parts.

abbrev pub Tasks : Type 0
Tasks = FinMap nat_cmp (Task UserState)

-- a turn of the process does something
abbrev pub can_turn_in : Shared → Tasks → ℕ → Bool
can_turn_in s tasks p = can_turn s p (at Gone tasks p)

-- no process from one pid up to before another can take a turn
abbrev pub AreUnable : Shared → Tasks → ℕ → ℕ → Type 0
AreUnable s tasks from to = (q : ℕ) → from ≤ q → q < to → can_turn_in s tasks q ≡ false

-- the first that can, from a pid on
abbrev pub IsFirstFrom : Shared → Tasks → ℕ → Option ℕ → Type 0
IsFirstFrom s tasks from None = (q : ℕ) → from ≤ q → can_turn_in s tasks q ≡ false
IsFirstFrom s tasks from (Some pid) = (from ≤ pid) × (can_turn_in s tasks pid ≡ true) × AreUnable s tasks from pid

-- the first above a pid, or else the first of all
abbrev pub IsNextIn : Shared → Tasks → ℕ → Option ℕ → Type 0
IsNextIn s tasks after o =
    (IsSome o × IsFirstFrom s tasks (after + 1) o)
    ⊎ (IsFirstFrom s tasks (after + 1) None × IsFirstFrom s tasks 0 o)
