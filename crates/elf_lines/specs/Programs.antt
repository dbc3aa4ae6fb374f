-- Line number programs (DWARF 5, 6.2.2 and 6.2.5): the registers, what an opcode does to them, and the rows that it
-- appends.
use Rattle.std.specs.Prelude.{ℕ, zero, suc, ◌+◌, ◌-◌, ◌/◌, ◌%◌, ◌^◌, not, ◌&&◌, List, [], ◌∷◌, ◌++◌, length, slice_index, nat_le, nat_lt, ◌==◌, if◌then◌else◌, Option, Some, None, option_to_list}
use Rattle.byteorder.specs.Endian.{little_number}
use Rattle.elf_lines.specs.declared.fields.Header.{Header}
use Rattle.elf_lines.specs.declared.programs.Registers.{Registers}
use Rattle.elf_lines.specs.declared.programs.Appended.{Appended}
use Rattle.elf_lines.specs.declared.programs.Appended.TheVariants as appended
use Rattle.elf_lines.specs.declared.rows.Row.{Row}
use Rattle.dwarf_data.specs.Reading.{◌>>=◌, from, sum, product, number, cut, uleb128, sleb128, behind_uleb128s}

-- ---- the registers (6.2.2); the others say nothing of files and lines, and are read past

-- at the start of each sequence
abbrev pub initial : Header → Registers
initial h = record { address = 0; file = 1; line = 1; is_stmt = h.default_is_stmt }

-- address, by so many instructions
abbrev pub advanced : Header → Registers → ℕ → Registers
advanced h r n = record r { address = sum r.address (product h.minimum_instruction_length n) }

-- ---- opcodes (6.2.5)

-- line_base: a byte that may be below 0
abbrev pub signed_byte : ℕ → ℕ
signed_byte b = if nat_lt b 128 then b else b + (2 ^ 64 - 256)

-- by line_range, which isn't 0 in a header that is read
abbrev pub quotient : ℕ → ℕ → ℕ
quotient n range = if range == 0 then 0 else n / range

abbrev pub remainder : ℕ → ℕ → ℕ
remainder n range = if range == 0 then 0 else n % range

-- 6.2.5.1
abbrev pub special : Header → Registers → ℕ → Registers
special h r b =
    record (advanced h r (quotient (b - h.opcode_base) h.line_range)) {
      line = sum r.line (sum (signed_byte h.line_base) (remainder (b - h.opcode_base) h.line_range));
    }

-- standard_opcode_lengths, from opcode 1 on
abbrev pub operands : List ℕ → ℕ → ℕ
operands lengths b = if b == 0 then 0 else slice_index lengths (b - 1)

-- 6.2.5.2: DW_LNS_advance_pc 2, advance_line 3, set_file 4, negate_stmt 6, const_add_pc 8, fixed_advance_pc 9; any
-- other has as many unsigned numbers as standard_opcode_lengths says
unfoldable pub moved : Header → List ℕ → Registers → ℕ → List ℕ → Option (Registers × List ℕ)
moved h lengths r b bytes =
    if b == 2 then (do
      n ← uleb128 bytes
      Some (advanced h r n.0, n.1))
    else if b == 3 then (do
      n ← sleb128 bytes
      Some (record r { line = sum r.line n.0 }, n.1))
    else if b == 4 then (do
      n ← uleb128 bytes
      Some (record r { file = n.0 }, n.1))
    else if b == 6 then Some (record r { is_stmt = not r.is_stmt }, bytes)
    else if b == 8 then Some (advanced h r (quotient (255 - h.opcode_base) h.line_range), bytes)
    else if b == 9 then (do
      n ← number 2 bytes
      Some (record r { address = sum r.address n.0 }, n.1))
    else (do
      rest ← behind_uleb128s (operands lengths b) bytes
      Some (r, rest))

-- DW_LNS_copy, 1, appends a row
unfoldable pub standard : Header → List ℕ → Registers → ℕ → List ℕ → Option (Registers × Appended × List ℕ)
standard h lengths r b bytes =
    if b == 1 then Some (r, appended.Row, bytes) else (do
      x ← moved h lengths r b bytes
      Some (x.0, appended.Nothing, x.1))

-- 6.2.5.3: DW_LNE_end_sequence 1, set_address 2; any other is read past
unfoldable pub extended : Registers → List ℕ → Registers × Appended
extended r [] = (r, appended.Nothing)
extended r (b ∷ bs) =
    if b == 1 then (r, appended.LastRow)
    else if (b == 2) && (length bs == 8) then (record r { address = little_number 8 bs }, appended.Nothing)
    else (r, appended.Nothing)

-- an opcode at the front of bytes: the registers behind it, what it appends, and the bytes behind it
unfoldable pub opcode_at : Header → List ℕ → Registers → List ℕ → Option (Registers × Appended × List ℕ)
opcode_at h lengths r [] = None
opcode_at h lengths r (b ∷ bs) =
    if nat_le h.opcode_base b then Some (special h r b, appended.Row, bs)
    else if b == 0 then (do
      n ← uleb128 bs
      block ← cut n.0 n.1
      Some ((extended r block.0).0, (extended r block.0).1, block.1))
    else standard h lengths r b bs

-- ---- rows: each up to the address of the next one of its sequence

-- the row that was appended last in this sequence, up to one that is appended now; none, if no address lies between
abbrev pub up_to : ℕ → Option Registers → Registers → Option Row
up_to unit None now = None
up_to unit (Some last) now =
    if nat_lt last.address now.address
    then Some (record {
      address = last.address;
      end = now.address;
      file = last.file;
      line = last.line;
      is_stmt = last.is_stmt;
      unit = unit;
    })
    else None

abbrev pub ended : ℕ → Option Registers → Registers → Appended → Option Row
ended unit last now appended.Nothing = None
ended unit last now appended.Row = up_to unit last now
ended unit last now appended.LastRow = up_to unit last now

abbrev pub last_behind : Option Registers → Registers → Appended → Option Registers
last_behind last now appended.Nothing = last
last_behind last now appended.Row = Some now
last_behind last now appended.LastRow = None

abbrev pub registers_behind : Header → Registers → Appended → Registers
registers_behind h now appended.Nothing = now
registers_behind h now appended.Row = now
registers_behind h now appended.LastRow = initial h

-- the rows of at most n opcodes, with the registers and the row appended last in this sequence; none behind an opcode
-- that isn't whole
unfoldable pub rows_of_opcodes : Header → List ℕ → ℕ → ℕ → Registers → Option Registers → List ℕ → List Row
rows_of_opcodes h lengths unit zero r last bytes = []
rows_of_opcodes h lengths unit (suc n) r last bytes =
    from (opcode_at h lengths r bytes) (λ x.
    option_to_list (ended unit last x.0 x.1)
    ++ rows_of_opcodes h lengths unit n (registers_behind h x.0 x.1) (last_behind last x.0 x.1) x.2)

-- an opcode has a byte at least
abbrev pub rows_of_program : Header → List ℕ → ℕ → List ℕ → List Row
rows_of_program h lengths unit program = rows_of_opcodes h lengths unit (length program) (initial h) None program
