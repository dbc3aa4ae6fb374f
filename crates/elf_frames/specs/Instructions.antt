-- Call frame instructions (DWARF 5, 6.4.2 and 7.24), but for DW_CFA_set_loc and those with expressions.
use Rattle.std.specs.Prelude.{ℕ, ◌/◌, ◌%◌, ◌||◌, List, ◌==◌, Option, Some, None, if◌then◌else◌}
use Rattle.elf_frames.specs.declared.numbers.Number.{Number}
use Rattle.elf_frames.specs.declared.instructions.Rule.{Rule}
use Rattle.elf_frames.specs.declared.instructions.Rule.TheVariants as rule
use Rattle.elf_frames.specs.declared.instructions.Instruction.{Instruction}
use Rattle.elf_frames.specs.declared.instructions.Instruction.TheVariants as do_
use Rattle.elf_frames.specs.declared.instructions.Operands.{Operands}
use Rattle.elf_frames.specs.declared.instructions.Operands.TheVariants as takes
use Rattle.elf_frames.specs.declared.instructions.Operation.{Operation}
use Rattle.elf_frames.specs.declared.instructions.Decoded.{Decoded}
use Rattle.dwarf_data.specs.Reading.{◌>>=◌, product}
use Rattle.elf_frames.specs.declared.entries.Factors.{Factors}
use Rattle.elf_frames.specs.Numbers.{fixed, unsigned, signed}

-- ---- operands

-- which operands a code (of the table in 7.24) has
unfoldable pub operands_of : ℕ → Operands
operands_of code =
    if code == 2 then takes.Byte
    else if code == 3 then takes.Half
    else if code == 4 then takes.Word
    else if (code == 6) || (code == 7) || (code == 8) || (code == 13) || (code == 14) then takes.Unsigned
    else if (code == 5) || (code == 9) || (code == 12) || (code == 20) then takes.Pair
    else if (code == 17) || (code == 18) || (code == 21) then takes.SignedPair
    else if code == 19 then takes.Signed
    else takes.Nothing

abbrev pub alone : Number → Operation
alone n = record { first = n.value; second = 0; next = n.next }

abbrev pub both : Number → Number → Operation
both n m = record { first = n.value; second = m.value; next = m.next }

abbrev pub only : Option Number → Option Operation
only None = None
only (Some n) = Some (alone n)

unfoldable pub pair_at : List ℕ → ℕ → Option Operation
pair_at bytes at = do
  n ← unsigned bytes at
  m ← unsigned bytes n.next
  Some (both n m)

unfoldable pub signed_pair_at : List ℕ → ℕ → Option Operation
signed_pair_at bytes at = do
  n ← unsigned bytes at
  m ← signed bytes n.next
  Some (both n m)

unfoldable pub operation_at : Operands → List ℕ → ℕ → Option Operation
operation_at takes.Nothing bytes at = Some (record { first = 0; second = 0; next = at })
operation_at takes.Byte bytes at = only (fixed 1 bytes at)
operation_at takes.Half bytes at = only (fixed 2 bytes at)
operation_at takes.Word bytes at = only (fixed 4 bytes at)
operation_at takes.Unsigned bytes at = only (unsigned bytes at)
operation_at takes.Signed bytes at = only (signed bytes at)
operation_at takes.Pair bytes at = pair_at bytes at
operation_at takes.SignedPair bytes at = signed_pair_at bytes at

-- ---- codes

-- DW_CFA_offset_extended (also _sf), undefined, same_value, register, val_offset (also _sf)
unfoldable pub rule_of : Factors → ℕ → ℕ → Option Rule
rule_of f code n =
    if (code == 5) || (code == 17) then Some (rule.Offset (product f.data_alignment n))
    else if code == 7 then Some rule.Undefined
    else if code == 8 then Some rule.SameValue
    else if code == 9 then Some (rule.Register n)
    else if (code == 20) || (code == 21) then Some (rule.ValOffset (product f.data_alignment n))
    else None

-- nop, advance_loc1, 2 and 4, restore_extended, remember_state, restore_state, def_cfa (also _sf), def_cfa_register,
-- def_cfa_offset (also _sf)
unfoldable pub other_of : Factors → ℕ → ℕ → ℕ → Option Instruction
other_of f code n m =
    if code == 0 then Some do_.Nop
    else if (code == 2) || (code == 3) || (code == 4) then Some (do_.AdvanceLoc (product f.code_alignment n))
    else if code == 6 then Some (do_.Restore n)
    else if code == 10 then Some do_.RememberState
    else if code == 11 then Some do_.RestoreState
    else if code == 12 then Some (do_.DefCfa n m)
    else if code == 13 then Some (do_.DefCfaRegister n)
    else if code == 14 then Some (do_.DefCfaOffset n)
    else if code == 18 then Some (do_.DefCfa n (product f.data_alignment m))
    else if code == 19 then Some (do_.DefCfaOffset (product f.data_alignment n))
    else None

abbrev pub set_or : ℕ → Option Rule → Option Instruction → Option Instruction
set_or register None other = other
set_or register (Some r) other = Some (do_.SetRule register r)

abbrev pub with_next : ℕ → Option Instruction → Option Decoded
with_next next None = None
with_next next (Some i) = Some (record { instruction = i; next = next })

abbrev pub of_operation : Factors → ℕ → Operation → Option Decoded
of_operation f code o =
    with_next o.next (set_or o.first (rule_of f code o.second) (other_of f code o.first o.second))

-- a code below 64, with its operands
unfoldable pub extended_at : Factors → ℕ → List ℕ → ℕ → Option Decoded
extended_at f code bytes at = do
  o ← operation_at (operands_of code) bytes at
  of_operation f code o

unfoldable pub offset_at : Factors → ℕ → List ℕ → ℕ → Option Decoded
offset_at f register bytes at = do
  n ← unsigned bytes at
  Some (record { instruction = do_.SetRule register (rule.Offset (product f.data_alignment n.value)); next = n.next })

-- the two highest bits: DW_CFA_advance_loc, offset, restore, each with the others as its operand, or a code
unfoldable pub decoded_with : Factors → ℕ → List ℕ → ℕ → Option Decoded
decoded_with f byte bytes at =
    if byte / 64 == 1
    then Some (record { instruction = do_.AdvanceLoc (product f.code_alignment (byte % 64)); next = at })
    else if byte / 64 == 2 then offset_at f (byte % 64) bytes at
    else if byte / 64 == 3 then Some (record { instruction = do_.Restore (byte % 64); next = at })
    else extended_at f byte bytes at

-- the instruction at an offset, by the factors of a CIE
unfoldable pub decoded_at : Factors → List ℕ → ℕ → Option Decoded
decoded_at f bytes at = do
  b ← fixed 1 bytes at
  decoded_with f b.value bytes b.next
