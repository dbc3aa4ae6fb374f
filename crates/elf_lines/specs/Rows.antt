-- The rows of a file.
use Rattle.std.specs.Prelude.{ℕ, zero, suc, ◌-◌, Bool, List, [], ◌++◌, length}
use Rattle.elf_lines.specs.declared.rows.Row.{Row}
use Rattle.dwarf_data.specs.Reading.{from}
use Rattle.elf_lines.specs.Headers.{unit_at, header_at}
use Rattle.elf_lines.specs.Programs.{rows_of_program}

-- ---- the rows

-- of a unit, that stands at an offset of .debug_line; none where its header isn't read
unfoldable pub rows_of_unit : Bool → ℕ → List ℕ → List Row
rows_of_unit wide unit content = from (header_at wide content) (λ x. rows_of_program x.0 x.1 unit x.3)

-- of at most n units; of all bytes so many are left where a unit stands
unfoldable pub rows_from : ℕ → ℕ → List ℕ → List Row
rows_from all zero bytes = []
rows_from all (suc n) bytes =
    from (unit_at bytes) (λ u. rows_of_unit u.0 (all - length bytes) u.1 ++ rows_from all n u.2)

-- of .debug_line, in its order: a unit has a byte at least
abbrev pub rows_in : List ℕ → List Row
rows_in lines = rows_from (length lines) (length lines) lines
