-- Counts of the descriptions that slots name, while slots come to a table.
use Rattle.std.specs.Prelude.{◌≡◌, ℕ, ◌+◌, ◌-◌, ◌≤◌, List, Option, Some, None}
use Rattle.std.specs.List.{range_with_len}
use Rattle.std.specs.FinMap as maps
use Rattle.lx_abi.specs.Limits.{most_fds}
use Rattle.lx_files.specs.declared.counts.Counts.{Counts}
use Rattle.lx_files.specs.Tallies.{count_of, one_if, how_many}
use Rattle.lx_open.specs.Kinds.{Slot, SlotMap, names_description}

-- the same of each description
abbrev pub SameCounts : Counts → Counts → Type 0
SameCounts c d = (n : ℕ) → count_of d n ≡ count_of c n

-- one more, and one less, of the description of a slot
abbrev pub CountsMore : Slot → Counts → Counts → Type 0
CountsMore s c d = (n : ℕ) → count_of d n ≡ one_if (names_description n s) + count_of c n

abbrev pub CountsLess : Slot → Counts → Counts → Type 0
CountsLess s c d = (n : ℕ) → count_of d n ≡ count_of c n - one_if (names_description n s)

-- each slot of the table counts, and others may
abbrev pub CountsAll : Counts → SlotMap → Type 0
CountsAll c m = (n : ℕ) → how_many (names_description n) m ≤ count_of c n

-- the counts have changed by as much as the table
abbrev pub CountsFollow : Counts → SlotMap → Counts → SlotMap → Type 0
CountsFollow c m d m' =
    (n : ℕ) → count_of d n + how_many (names_description n) m ≡ count_of c n + how_many (names_description n) m'

-- what stood at a key stands there again
abbrev pub put_back : SlotMap → ℕ → Option Slot → SlotMap
put_back m k None = maps.remove m k
put_back m k (Some s) = maps.insert m k s

-- the descriptors from one on
abbrev pub fds_from : ℕ → List ℕ
fds_from fd = range_with_len fd (most_fds - fd)
