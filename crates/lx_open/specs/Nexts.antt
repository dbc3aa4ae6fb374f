-- The slots of a process in their order.
use Rattle.std.specs.Prelude.{◌≡◌, ℕ, ◌<◌, ◌≤◌, Option, Some, None, IsSome}
use Rattle.std.specs.FinMap as maps
use Rattle.lx_abi.specs.Limits.{most_fds}
use Rattle.lx_open.specs.Kinds.{SlotMap}
use Rattle.lx_open.specs.Opens.{pair}

-- the descriptor that is told names something, and those of the process before it, from one on, name nothing
abbrev pub IsNextOpen : SlotMap → ℕ → ℕ → Option ℕ → Type 0
IsNextOpen slots pid fd None = (q : ℕ) → fd ≤ q → q < most_fds → maps.get slots (pair pid q) ≡ None
IsNextOpen slots pid fd (Some n) =
    (fd ≤ n)
    × (n < most_fds)
    × IsSome (maps.get slots (pair pid n))
    × ((q : ℕ) → fd ≤ q → q < n → maps.get slots (pair pid q) ≡ None)
