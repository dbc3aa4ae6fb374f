-- Slots of each process in a row, by descriptor.
use Rattle.std.specs.Prelude.{◌≡◌, ◌≢◌, ℕ, zero, suc, ◌+◌, ◌<◌, ◌≤◌, List, [], ◌∷◌, Option, None, Some, IsSome, get_or}
use Rattle.std.specs.Ordering.{nat_cmp}
use Rattle.std.specs.FinMap as maps
use Rattle.std.specs.FinMap.{FinMap}
use Rattle.lx_abi.specs.Limits.{most_fds}
use Rattle.lx_files.specs.declared.counts.Counts.{Counts}
use Rattle.lx_files.specs.Tallies.{count_of, one_if, weight}
use Rattle.lx_open.specs.Kinds.{Slot, SlotMap, names_description}
use Rattle.lx_open.specs.Counted.{put_back}
use Rattle.lx_open.specs.Opens.{pair}

-- what each descriptor names; one that has no place names nothing
abbrev pub Slots : Type 0
Slots = List (Option Slot)

-- the same of each descriptor
abbrev pub AreAlike : Slots → Slots → Type 0
AreAlike row row' = (q : ℕ) → get_or row' q None ≡ get_or row q None

-- one descriptor names this, and each other one what it did
pub record HasAt (row : Slots) (fd : ℕ) (s : Option Slot) (row' : Slots) : Type 0 where
  pub here : get_or row' fd None ≡ s
  pub others : (q : ℕ) → q ≢ fd → get_or row' q None ≡ get_or row q None

-- the descriptor that is told names something, and those before it, from one on, name nothing
abbrev pub IsNextIn : Slots → ℕ → Option ℕ → Type 0
IsNextIn row fd None = (q : ℕ) → fd ≤ q → q < most_fds → get_or row q None ≡ None
IsNextIn row fd (Some n) =
    (fd ≤ n)
    × (n < most_fds)
    × IsSome (get_or row n None)
    × ((q : ℕ) → fd ≤ q → q < n → get_or row q None ≡ None)

-- rows by pid
abbrev pub Rows : Type 0
Rows = FinMap nat_cmp Slots

abbrev pub row_slot : Option Slots → ℕ → Option Slot
row_slot None fd = None
row_slot (Some row) fd = get_or row fd None

-- what a descriptor of a process names
abbrev pub slot_at : Rows → ℕ → ℕ → Option Slot
slot_at rows pid fd = row_slot (maps.get rows pid) fd

-- the first descriptors of a row, as slots of a process
unfoldable pub with_row : SlotMap → ℕ → Slots → ℕ → SlotMap
with_row slots pid row zero = slots
with_row slots pid row (suc fd) = put_back (with_row slots pid row fd) (pair pid fd) (get_or row fd None)

unfoldable pub with_rows : List (ℕ × Slots) → SlotMap
with_rows [] = maps.empty
with_rows (e ∷ es) = with_row (with_rows es) e.0 e.1 most_fds

-- rows as a map from pair to slot
unfoldable pub flat : Rows → SlotMap
flat rows = with_rows (maps.entries rows)

-- only pids have rows
abbrev pub AreOfPids : Rows → Type 0
AreOfPids rows = (pid : ℕ) → IsSome (maps.get rows pid) → pid < 4294967296

-- a process has the slots of a row, or none
abbrev pub IsRowOf : SlotMap → ℕ → Option Slots → Type 0
IsRowOf slots pid row = (fd : ℕ) → fd < most_fds → maps.get slots (pair pid fd) ≡ row_slot row fd

-- how many of the first slots of a row name a description
unfoldable pub named_in : ℕ → Slots → ℕ → ℕ
named_in n row zero = 0
named_in n row (suc fd) = weight (λ s. one_if (names_description n s)) (get_or row fd None) + named_in n row fd

-- one more of the description of a slot that may be there
abbrev pub CountsSlot : Option Slot → Counts → Counts → Type 0
CountsSlot slot c d = (n : ℕ) → count_of d n ≡ weight (λ s. one_if (names_description n s)) slot + count_of c n

-- as many more of each description as the first slots of a row name
abbrev pub CountsRow : Counts → Slots → ℕ → Counts → Type 0
CountsRow c row end d = (n : ℕ) → count_of d n ≡ named_in n row end + count_of c n
