-- The index of a table's FDEs, in the order of their addresses, and the FDE of an address.
use Rattle.std.specs.Prelude.{◌≡◌, ℕ, ◌+◌, Bool, true, List, Option, Some}
use Rattle.std.specs.List.{Contains}
use Rattle.elf_symbols.specs.Ranges.{covers, range_at, IsIndex, AreApart}
use Rattle.elf_frames.specs.declared.entries.Fde.{Fde}

-- initial_location, and that and address_range
abbrev pub start_of : Fde → ℕ
start_of f = f.start

abbrev pub stop_of : Fde → ℕ
stop_of f = f.start + f.size

-- of the FDEs in the order of their addresses the last that begins at or below the address, if it covers the address
unfoldable pub fde_at : List Fde → ℕ → Option Fde
fde_at index address = range_at start_of stop_of index address

-- these FDEs in the order of their addresses
abbrev pub IsIndexOf : List Fde → List Fde → Type 0
IsIndexOf fdes index = IsIndex start_of fdes index

abbrev pub covers_address : Fde → ℕ → Bool
covers_address f address = covers start_of stop_of f address

-- ---- laws

-- what is found is an FDE of the table, and covers the address
abbrev pub FoundCovers : Type 0
FoundCovers =
    (fdes index : List Fde) (address : ℕ) (f : Fde) → IsIndexOf fdes index → fde_at index address ≡ Some f
    → Contains fdes f × (covers_address f address ≡ true)

-- where no two FDEs cover one address, the one that covers an address is found
abbrev pub CoveringIsFound : Type 0
CoveringIsFound =
    (fdes index : List Fde) (address : ℕ) (f : Fde) → IsIndexOf fdes index → AreApart start_of stop_of fdes
    → Contains fdes f → covers_address f address ≡ true → fde_at index address ≡ Some f
