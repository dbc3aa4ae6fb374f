-- The index of a file's rows, in the order of their addresses, and the row of an address.
use Rattle.std.specs.Prelude.{◌≡◌, ℕ, Bool, true, List, Option, Some}
use Rattle.std.specs.List.{Contains}
use Rattle.elf_symbols.specs.Ranges.{covers, range_at, IsIndex, AreApart}
use Rattle.elf_lines.specs.declared.rows.Row.{Row}

abbrev pub start_of : Row → ℕ
start_of r = r.address

abbrev pub stop_of : Row → ℕ
stop_of r = r.end

-- of the rows in the order of their addresses the last that begins at or below the address, if it covers the address
unfoldable pub row_at : List Row → ℕ → Option Row
row_at index address = range_at start_of stop_of index address

-- these rows in the order of their addresses
abbrev pub IsIndexOf : List Row → List Row → Type 0
IsIndexOf rows index = IsIndex start_of rows index

abbrev pub covers_address : Row → ℕ → Bool
covers_address r address = covers start_of stop_of r address

-- ---- laws

-- what is found is a row of the file, and covers the address
abbrev pub FoundCovers : Type 0
FoundCovers =
    (rows index : List Row) (address : ℕ) (r : Row) → IsIndexOf rows index → row_at index address ≡ Some r
    → Contains rows r × (covers_address r address ≡ true)

-- where no two rows cover one address, the one that covers an address is found
abbrev pub CoveringIsFound : Type 0
CoveringIsFound =
    (rows index : List Row) (address : ℕ) (r : Row) → IsIndexOf rows index → AreApart start_of stop_of rows
    → Contains rows r → covers_address r address ≡ true → row_at index address ≡ Some r
