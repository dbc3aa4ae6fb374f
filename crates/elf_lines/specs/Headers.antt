-- Units of .debug_line and their headers (DWARF 5, 6.2.4; 7.4 on units of 64 bits).
use Rattle.std.specs.Prelude.{ℕ, ◌-◌, Bool, true, false, not, ◌&&◌, ◌||◌, List, nat_lt, ◌==◌, if◌then◌else◌, Option, Some, None}
use Rattle.dwarf_data.specs.Reading.{◌>>=◌, number, cut}
use Rattle.elf_lines.specs.declared.fields.Header.{Header}

-- behind the first 4 bytes of unit_length
unfoldable pub unit_of : ℕ → List ℕ → Option (Bool × List ℕ × List ℕ)
unit_of n bytes =
    if n == 0xffffffff then (do
      m ← number 8 bytes
      u ← cut m.0 m.1
      Some (true, u.0, u.1))
    else (do
      u ← cut n bytes
      Some (false, u.0, u.1))

-- a unit: whether its offsets have 8 bytes, what stands behind its unit_length, and what stands behind it
unfoldable pub unit_at : List ℕ → Option (Bool × List ℕ × List ℕ)
unit_at bytes = do
  n ← number 4 bytes
  unit_of n.0 n.1

-- an offset or a length, of 4 or 8 bytes
abbrev pub offset : Bool → List ℕ → Option (ℕ × List ℕ)
offset wide bytes = number (if wide then 8 else 4) bytes

-- versions 4 and 5, of a machine with one operation an instruction; line_range isn't 0, nor opcode_base
unfoldable pub is_read : Header → Bool
is_read h =
    ((h.version == 4) || (h.version == 5)) && (h.maximum_operations == 1) && nat_lt 0 h.line_range
    && nat_lt 0 h.opcode_base

abbrev pub checked : Header → List ℕ → Option (Header × List ℕ)
checked h rest = if is_read h then Some (h, rest) else None

-- three bytes
unfoldable pub three_at : List ℕ → Option (ℕ × ℕ × ℕ × List ℕ)
three_at bytes = do
  a ← number 1 bytes
  b ← number 1 a.1
  c ← number 1 b.1
  Some (a.0, b.0, c.0, c.1)

-- minimum_instruction_length, maximum_operations_per_instruction, default_is_stmt; line_base, line_range, opcode_base
abbrev pub header_with : Bool → ℕ → ℕ × ℕ × ℕ × List ℕ → ℕ × ℕ × ℕ × List ℕ → Header
header_with wide version x y = record {
  wide = wide;
  version = version;
  minimum_instruction_length = x.0;
  maximum_operations = x.1;
  default_is_stmt = not (x.2 == 0);
  line_base = y.0;
  line_range = y.1;
  opcode_base = y.2;
}

unfoldable pub fields_at : Bool → ℕ → List ℕ → Option (Header × List ℕ)
fields_at wide version bytes = do
  x ← three_at bytes
  y ← three_at x.3
  checked (header_with wide version x y) y.3

-- the header of a unit, its standard_opcode_lengths, its tables, and its program; version 5 has address_size and
-- segment_selector_size before header_length
unfoldable pub header_at : Bool → List ℕ → Option (Header × List ℕ × List ℕ × List ℕ)
header_at wide content = do
  version ← number 2 content
  sizes ← cut (if version.0 == 5 then 2 else 0) version.1
  size ← offset wide sizes.1
  parts ← cut size.0 size.1
  fields ← fields_at wide version.0 parts.0
  lengths ← cut (fields.0.opcode_base - 1) fields.1
  Some (fields.0, lengths.0, lengths.1, parts.1)
