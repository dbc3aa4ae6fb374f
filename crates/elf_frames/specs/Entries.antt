-- The entries of a table of frames (DWARF 5, 6.4.1; LSB 5.0, 10.6.1): CIEs and FDEs.
use Rattle.std.specs.Prelude.{ℕ, zero, suc, ◌+◌, ◌-◌, Bool, true, false, ◌||◌, List, [], ◌∷◌, ◌++◌, length, take, drop, nat_le, nat_lt, ◌==◌, bytes_eq, codes, Option, Some, None, option_to_list, if◌then◌else◌}
use Rattle.dwarf_data.specs.Reading.{◌>>=◌, sum}
use Rattle.elf_symbols.specs.Sections.{passes_end}
use Rattle.elf_frames.specs.declared.numbers.Number.{Number}
use Rattle.elf_frames.specs.declared.tables.Table.{Table}
use Rattle.elf_frames.specs.declared.entries.Entry.{Entry}
use Rattle.elf_frames.specs.declared.entries.Cie.{Cie}
use Rattle.elf_frames.specs.declared.entries.Fde.{Fde}
use Rattle.elf_frames.specs.Numbers.{fixed, unsigned, signed}

-- ---- an entry

abbrev pub entry_with : List ℕ → Number → Option Entry
entry_with bytes size =
    if nat_le 0xffff_fff0 size.value || passes_end bytes size.next size.value then None
    else Some (record { at = size.next; end = size.next + size.value })

-- a length of 4 bytes, and that many bytes; the form of 64 bits, whose length begins with FF FF FF FF, isn't read
unfoldable pub entry_at : List ℕ → ℕ → Option Entry
entry_at bytes at = do
  size ← fixed 4 bytes at
  entry_with bytes size

-- ---- a CIE

-- at an offset these bytes stand
unfoldable pub stands : List ℕ → List ℕ → ℕ → Bool
stands text bytes at =
    if passes_end bytes at (length text) then false else bytes_eq (take (length text) (drop at bytes)) text

-- CIE_id: -1, and 0 in .eh_frame
abbrev pub cie_id : Bool → ℕ
cie_id is_eh_frame = if is_eh_frame then 0 else 0xffff_ffff

-- version 4 has address_size, 8, and segment_selector_size, 0
unfoldable pub past_sizes : ℕ → List ℕ → ℕ → Option ℕ
past_sizes version bytes at =
    if version == 4 then (if stands (8 ∷ 0 ∷ []) bytes at then Some (at + 2) else None)
    else (if (version == 1) || (version == 3) then Some at else None)

-- the augmentation: none, or zR
abbrev pub no_augmentation : List ℕ
no_augmentation = 0 ∷ []

abbrev pub augmentation : List ℕ
augmentation = codes "zR" ++ (0 ∷ [])

-- return_address_register, a byte in version 1
unfoldable pub register_at : ℕ → List ℕ → ℕ → Option Number
register_at version bytes at = if version == 1 then fixed 1 bytes at else unsigned bytes at

-- DW_EH_PE_pcrel with DW_EH_PE_sdata4, and DW_EH_PE_absptr
abbrev pub is_relative : ℕ → Option Bool
is_relative encoding = if encoding == 0x1b then Some true else (if encoding == 0 then Some false else None)

-- so many bytes on, within these
unfoldable pub past : List ℕ → ℕ → ℕ → Option ℕ
past bytes at size = if passes_end bytes at size then None else Some (at + size)

-- the augmentation's data: its length, and how addresses are written
unfoldable pub relative_at : List ℕ → ℕ → Option (Bool × ℕ)
relative_at bytes at = do
  size ← unsigned bytes at
  encoding ← fixed 1 bytes size.next
  relative ← is_relative encoding.value
  next ← past bytes size.next size.value
  Some (relative, next)

abbrev pub relative_in : Bool → List ℕ → ℕ → Option (Bool × ℕ)
relative_in augmented bytes at = if augmented then relative_at bytes at else Some (false, at)

-- code_alignment_factor, data_alignment_factor, return_address_register, and initial_instructions, which go to the
-- end of these bytes
unfoldable pub factors_at : ℕ → Bool → List ℕ → ℕ → Option Cie
factors_at version augmented bytes at = do
  code ← unsigned bytes at
  data_factor ← signed bytes code.next
  register ← register_at version bytes data_factor.next
  relative ← relative_in augmented bytes register.next
  Some (record {
    factors = record { code_alignment = code.value; data_alignment = data_factor.value };
    return_address_register = register.value;
    augmented = augmented;
    relative = relative.0;
    at = relative.1;
    end = length bytes;
  })

unfoldable pub augmented_at : ℕ → List ℕ → ℕ → Option Cie
augmented_at version bytes at =
    if stands no_augmentation bytes at then (do
      next ← past_sizes version bytes (at + 1)
      factors_at version false bytes next)
    else (if stands augmentation bytes at then (do
      next ← past_sizes version bytes (at + 3)
      factors_at version true bytes next)
    else None)

unfoldable pub cie_in : Bool → List ℕ → ℕ → Option Cie
cie_in is_eh_frame bytes at = do
  id ← fixed 4 bytes at
  version ← fixed 1 bytes id.next
  if id.value == cie_id is_eh_frame then augmented_at version.value bytes version.next else None

-- the CIE that begins at an offset
unfoldable pub cie_at : Bool → List ℕ → ℕ → Option Cie
cie_at is_eh_frame bytes at = do
  e ← entry_at bytes at
  cie_in is_eh_frame (take e.end bytes) e.at

-- ---- an FDE

-- where its CIE is: an offset, and in .eh_frame how far before CIE_pointer
abbrev pub cie_place : Bool → ℕ → ℕ → Option ℕ
cie_place is_eh_frame at pointer =
    if is_eh_frame then (if nat_lt at pointer then None else Some (at - pointer)) else Some pointer

-- a number of 4 bytes with a sign
abbrev pub extended : ℕ → ℕ
extended word = if nat_lt word 0x8000_0000 then word else sum word 0xffff_ffff_0000_0000

-- initial_location and address_range, at an offset of what is loaded at an address
unfoldable pub far_range_at : List ℕ → ℕ → Option (ℕ × ℕ × ℕ)
far_range_at bytes at = do
  start ← fixed 8 bytes at
  size ← fixed 8 bytes start.next
  Some (start.value, size.value, size.next)

unfoldable pub near_range_at : ℕ → List ℕ → ℕ → Option (ℕ × ℕ × ℕ)
near_range_at address bytes at = do
  start ← fixed 4 bytes at
  size ← fixed 4 bytes start.next
  Some (sum (sum address at) (extended start.value), size.value, size.next)

abbrev pub range_at : Bool → ℕ → List ℕ → ℕ → Option (ℕ × ℕ × ℕ)
range_at relative address bytes at = if relative then near_range_at address bytes at else far_range_at bytes at

-- behind the augmentation's data, if there are such
unfoldable pub past_data : Bool → List ℕ → ℕ → Option ℕ
past_data augmented bytes at =
    if augmented then (do
      size ← unsigned bytes at
      past bytes size.next size.value)
    else Some at

-- an FDE of no address is left out
abbrev pub covering_any : Fde → Option Fde
covering_any f = if f.size == 0 then None else Some f

unfoldable pub fde_with : ℕ → List ℕ → ℕ → Cie → Option Fde
fde_with address bytes at cie = do
  range ← range_at cie.relative address bytes at
  next ← past_data cie.augmented bytes range.2
  covering_any (record { start = range.0; size = range.1; cie = cie; at = next; end = length bytes })

unfoldable pub fde_inside : Table → List ℕ → Entry → Option Fde
fde_inside t bytes e = do
  pointer ← fixed 4 (take e.end bytes) e.at
  place ← cie_place t.is_eh_frame e.at pointer.value
  cie ← cie_at t.is_eh_frame bytes place
  fde_with t.address (take e.end bytes) pointer.next cie

-- the FDE in an entry
unfoldable pub fde_in : Table → List ℕ → Entry → Option Fde
fde_in t bytes e = if nat_lt (length bytes) e.end then None else fde_inside t bytes e

-- the FDEs among n entries, the first of which this is
unfoldable pub fdes_from : ℕ → Table → List ℕ → Option Entry → List Fde
fdes_from zero t bytes e = []
fdes_from (suc n) t bytes None = []
fdes_from (suc n) t bytes (Some e) =
    option_to_list (fde_in t bytes e) ++ fdes_from n t bytes (entry_at bytes e.end)

-- those of a table, in its order; an entry has a byte at least
unfoldable pub fdes_of : Table → List ℕ → List Fde
fdes_of t bytes = fdes_from (length bytes) t bytes (entry_at bytes 0)
