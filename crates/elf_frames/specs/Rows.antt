-- The rules that hold at an address (DWARF 5, 6.4.3).
use Rattle.std.specs.Prelude.{ℕ, zero, suc, ◌+◌, ◌-◌, ◌^◌, Bool, true, false, ◌&&◌, ◌||◌, List, length, take, nat_le, nat_lt, Option, Some, None, if◌then◌else◌, replicate, slice_set, slice_index_or}
use Rattle.dwarf_data.specs.Reading.{◌>>=◌, sum}
use Rattle.elf_frames.specs.declared.entries.Cie.{Cie}
use Rattle.elf_frames.specs.declared.entries.Fde.{Fde}
use Rattle.elf_frames.specs.declared.instructions.Rule.{Rule}
use Rattle.elf_frames.specs.declared.instructions.Rule.TheVariants.{Unset}
use Rattle.elf_frames.specs.declared.instructions.Instruction.{Instruction}
use Rattle.elf_frames.specs.declared.instructions.Instruction.TheVariants as do_
use Rattle.elf_frames.specs.declared.rows.Row.{Row}
use Rattle.elf_frames.specs.declared.rows.State.{State}
use Rattle.elf_frames.specs.declared.rows.Run.{Run}
use Rattle.elf_frames.specs.Instructions.{decoded_at}

-- ---- one instruction

abbrev pub empty_row : Row
empty_row = record { cfa_register = 0; cfa_offset = 0; rules = replicate 32 Unset }

abbrev pub with_row : Row → State → State
with_row r s = record s { row = r }

-- registers from 32 on, which are those of floating point, have no rules
abbrev pub with_rule : ℕ → Rule → Row → Row
with_rule register rule r = if nat_lt register 32 then record r { rules = slice_set r.rules register rule } else r

abbrev pub rule_in : List Rule → ℕ → Rule
rule_in rules register = if nat_lt register 32 then slice_index_or rules register Unset else Unset

-- four rows are kept at most
unfoldable pub remembered : State → Option State
remembered s =
    if nat_lt s.depth 4 then Some (record s { saved = slice_set s.saved s.depth s.row; depth = s.depth + 1 }) else None

unfoldable pub restored : State → Option State
restored s =
    if nat_lt 0 s.depth && nat_le s.depth 4
    then Some (record s { row = slice_index_or s.saved (s.depth - 1) s.row; depth = s.depth - 1 })
    else None

unfoldable pub applied : Instruction → State → Option State
applied do_.Nop s = Some s
applied (do_.AdvanceLoc delta) s = Some (record s { location = sum s.location delta })
applied (do_.SetRule register rule) s = Some (with_row (with_rule register rule s.row) s)
applied (do_.Restore register) s = Some (with_row (with_rule register (rule_in s.initial register) s.row) s)
applied do_.RememberState s = remembered s
applied do_.RestoreState s = restored s
applied (do_.DefCfa register offset) s =
    Some (with_row (record s.row { cfa_register = register; cfa_offset = offset }) s)
applied (do_.DefCfaRegister register) s = Some (with_row (record s.row { cfa_register = register }) s)
applied (do_.DefCfaOffset offset) s = Some (with_row (record s.row { cfa_offset = offset }) s)

-- ---- instructions up to an address

abbrev pub delta_of : Instruction → Option ℕ
delta_of (do_.AdvanceLoc delta) = Some delta
delta_of _ = None

abbrev pub exceeds : Option ℕ → ℕ → Bool
exceeds None left = false
exceeds (Some delta) left = nat_lt left delta

-- the instruction goes past the address
abbrev pub is_past : Instruction → ℕ → State → Bool
is_past i address s = exceeds (delta_of i) (address - s.location)

abbrev pub at_next : ℕ → Option State → Option Run
at_next next None = None
at_next next (Some s) = Some (record { at = next; over = false; state = s })

abbrev pub done : Run → Run
done r = record r { over = true }

unfoldable pub stepped : Cie → ℕ → List ℕ → Run → Option Run
stepped cie address bytes r = do
  d ← decoded_at cie.factors bytes r.at
  if is_past d.instruction address r.state then Some (done r) else at_next d.next (applied d.instruction r.state)

-- the address is passed, or these bytes have no more instructions
abbrev pub ends : List ℕ → Run → Bool
ends bytes r = r.over || nat_le (length bytes) r.at

-- n instructions at most, up to the end of these bytes, or the first that goes past the address
unfoldable pub run_from : ℕ → Cie → ℕ → List ℕ → Option Run → Option Run
run_from zero cie address bytes r = r
run_from (suc n) cie address bytes None = None
run_from (suc n) cie address bytes (Some r) =
    if ends bytes r then Some r else run_from n cie address bytes (stepped cie address bytes r)

unfoldable pub run_in : Cie → ℕ → List ℕ → ℕ → Run → Option Run
run_in cie address bytes end r =
    if nat_lt (length bytes) end then None else run_from end cie address (take end bytes) (Some r)

-- what a function that changes its argument says: it changed it so, or couldn't
abbrev pub changed : {X : Type 0} → Bool → X → Option X
changed true x = Some x
changed false x = None

-- ---- a row

abbrev pub first_run : Cie → Run
first_run cie = record {
  at = cie.at;
  over = false;
  state = record { location = 0; row = empty_row; initial = empty_row.rules; saved = replicate 4 empty_row; depth = 0 };
}

abbrev pub own_run : Fde → Row → Run
own_run f r = record {
  at = f.at;
  over = false;
  state = record { location = f.start; row = r; initial = r.rules; saved = replicate 4 empty_row; depth = 0 };
}

-- the row of an address of an FDE: by the initial instructions of its CIE, and then by its own up to that address
unfoldable pub row_of : List ℕ → Fde → ℕ → Option Row
row_of bytes f address = do
  first ← run_in f.cie (2 ^ 64 - 1) bytes f.cie.end (first_run f.cie)
  own ← run_in f.cie address bytes f.end (own_run f first.state.row)
  Some own.state.row
