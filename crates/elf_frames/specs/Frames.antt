-- The frames of a program that stands still: registers are x0 to x31, and memory gives the eight bytes at an address
-- as a number, where they can be read. What can't be read, or isn't known, counts as 0, and there is no return to 0.
use Rattle.std.specs.Prelude.{ℕ, zero, suc, ◌+◌, ◌-◌, Bool, true, false, not, ◌&&◌, List, [], ◌∷◌, nat_le, nat_lt, ◌==◌, slice_index, Option, Some, None, unwrap_or, if◌then◌else◌}
use Rattle.dwarf_data.specs.Reading.{sum}
use Rattle.elf_frames.specs.declared.entries.Fde.{Fde}
use Rattle.elf_frames.specs.declared.instructions.Rule.{Rule}
use Rattle.elf_frames.specs.declared.instructions.Rule.TheVariants as rule
use Rattle.elf_frames.specs.declared.rows.Row.{Row}
use Rattle.elf_frames.specs.declared.frames.Frame.{Frame}
use Rattle.elf_frames.specs.Rows.{row_of, rule_in}
use Rattle.elf_frames.specs.Index.{fde_at}

-- ---- one step

abbrev pub value_in : List ℕ → ℕ → ℕ
value_in registers register = if nat_lt register 32 then slice_index registers register else 0

-- what the caller had in a register (DWARF 5, 6.4.1); its sp is the CFA, where no rule says else
abbrev pub value : (ℕ → Option ℕ) → List ℕ → ℕ → ℕ → Rule → ℕ
value memory registers cfa register rule.Unset = if register == 2 then cfa else value_in registers register
value memory registers cfa register rule.Undefined = 0
value memory registers cfa register rule.SameValue = value_in registers register
value memory registers cfa register (rule.Offset offset) = unwrap_or (memory (sum cfa offset)) 0
value memory registers cfa register (rule.ValOffset offset) = sum cfa offset
value memory registers cfa register (rule.Register other) = value_in registers other

-- .. in the registers from one on that have these rules
abbrev pub values_from : (ℕ → Option ℕ) → List ℕ → ℕ → ℕ → List Rule → List ℕ
values_from memory registers cfa register [] = []
values_from memory registers cfa register (r ∷ rs) =
    value memory registers cfa register r ∷ values_from memory registers cfa (register + 1) rs

abbrev pub cfa_of : List ℕ → Row → ℕ
cfa_of registers row = sum (value_in registers row.cfa_register) row.cfa_offset

-- a stack grows down: the CFA is above sp, and in the innermost frame not below it
abbrev pub rises : Bool → ℕ → ℕ → Bool
rises innermost cfa sp = if innermost then nat_le sp cfa else nat_lt sp cfa

-- nothing says where the return address is kept
abbrev pub stays : Rule → Bool
stays rule.Unset = true
stays rule.SameValue = true
stays _ = false

-- the return address: in the innermost frame it may be where the call left it
abbrev pub return_address : Bool → List Rule → List ℕ → ℕ → ℕ
return_address innermost rules caller register =
    if not innermost && stays (rule_in rules register) then 0 else value_in caller register

-- the frame that a call returns to
abbrev pub returned : ℕ → List ℕ → Option Frame
returned pc registers = if pc == 0 then None else Some (record { pc = pc; registers = registers; innermost = false })

-- by a row and the register with the return address
unfoldable pub by_row : (ℕ → Option ℕ) → Frame → ℕ → Row → Option Frame
by_row memory f register row =
    let cfa = cfa_of f.registers row in
    let caller = values_from memory f.registers cfa 0 row.rules in
    if rises f.innermost cfa (value_in f.registers 2)
    then returned (return_address f.innermost row.rules caller register) caller
    else None

-- without a row: the innermost goes on by ra
unfoldable pub by_ra : Frame → Option Frame
by_ra f = if f.innermost then returned (value_in f.registers 1) f.registers else None

-- the instruction of a frame: the one at pc, or the call before it
abbrev pub place : Frame → ℕ
place f = if f.innermost then f.pc else f.pc - 1

abbrev pub by_row_or_ra : (ℕ → Option ℕ) → Frame → ℕ → Option Row → Option Frame
by_row_or_ra memory f register None = by_ra f
by_row_or_ra memory f register (Some row) = by_row memory f register row

abbrev pub by_fde_or_ra : (ℕ → Option ℕ) → List ℕ → Frame → Option Fde → Option Frame
by_fde_or_ra memory bytes f None = by_ra f
by_fde_or_ra memory bytes f (Some fde) =
    by_row_or_ra memory f fde.cie.return_address_register (row_of bytes fde (place f))

-- the frame of the caller, by the bytes of a table and the index of its FDEs
unfoldable pub caller_of : (ℕ → Option ℕ) → List ℕ → List Fde → Frame → Option Frame
caller_of memory bytes index f = by_fde_or_ra memory bytes f (fde_at index (place f))

-- ---- the stack

-- pc of n frames at most, the first of which this is
unfoldable pub stack_from : ℕ → (ℕ → Option ℕ) → List ℕ → List Fde → Option Frame → List ℕ
stack_from zero memory bytes index f = []
stack_from (suc n) memory bytes index None = []
stack_from (suc n) memory bytes index (Some f) =
    f.pc ∷ stack_from n memory bytes index (caller_of memory bytes index f)

-- the stack of calls above a frame, innermost first, of 64 frames at most
abbrev pub stack_of : (ℕ → Option ℕ) → List ℕ → List Fde → Frame → List ℕ
stack_of memory bytes index f = stack_from 64 memory bytes index (Some f)
