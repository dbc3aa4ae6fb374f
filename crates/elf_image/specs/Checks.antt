-- What makes a file an ELF64 program for RISC-V: checks in their order, the first that fails deciding.
use Rattle.std.specs.Prelude.{ℕ, ◌+◌, ◌*◌, Bool, ◌&&◌, ◌||◌, not, List, [], ◌∷◌, ◌++◌, length, nat_lt, ◌==◌, if◌then◌else◌, Option, Some, None}
use Rattle.std.specs.List.{list_any}
use Rattle.elf_image.specs.declared.fault.ElfFault.{ElfFault}
use Rattle.elf_image.specs.declared.fault.ElfFault.TheVariants.{NotElf, NotRiscv, NotExec, Truncated, Overlap, TooLarge, Memory}
use Rattle.elf_image.specs.declared.headers.ProgramHeader.{ProgramHeader}
use Rattle.elf_image.specs.Headers.{magic, class, encoding, file_type, machine, table_offset, header_size, header_count, program_headers, extents}
use Rattle.elf_image.specs.Layout.{any_share, are_too_large}

-- the number of a fault, as programs show it
abbrev pub fault_number : ElfFault → ℕ
fault_number NotElf = 1
fault_number NotRiscv = 2
fault_number NotExec = 3
fault_number Truncated = 4
fault_number Overlap = 5
fault_number TooLarge = 6
fault_number Memory = 7

-- the file does not begin with 7F 45 4C 46
unfoldable pub has_no_magic : List ℕ → Bool
has_no_magic bytes = nat_lt (length bytes) 4 || not (magic bytes == 0x464c457f)

-- not of ELFCLASS64 2, ELFDATA2LSB 1 and EM_RISCV 243
unfoldable pub is_of_another_machine : List ℕ → Bool
is_of_another_machine bytes = not ((class bytes == 2) && (encoding bytes == 1) && (machine bytes == 243))

-- not of type ET_EXEC 2, or without program headers of 56 bytes
unfoldable pub is_no_program : List ℕ → Bool
is_no_program bytes = not ((file_type bytes == 2) && (header_size bytes == 56) && nat_lt 0 (header_count bytes))

-- the content of a segment passes the end of the file
abbrev pub passes_end : List ℕ → ProgramHeader → Bool
passes_end bytes h = nat_lt (length bytes) (h.offset + h.file_size)

-- a segment has more content than memory
abbrev pub exceeds : ProgramHeader → Bool
exceeds h = nat_lt h.extent.size h.file_size

pub record Check : Type 0 where
  pub fault : ElfFault
  pub fails : Bool

abbrev pub check : ElfFault → Bool → Check
check f b = record { fault = f; fails = b }

-- the checks of the ELF header, and of the room that the program headers have in the file
abbrev pub header_checks : List ℕ → List Check
header_checks bytes =
    check NotElf (has_no_magic bytes)
    ∷ check Truncated (nat_lt (length bytes) 64)
    ∷ check NotRiscv (is_of_another_machine bytes)
    ∷ check NotExec (is_no_program bytes)
    ∷ check TooLarge (nat_lt 64 (header_count bytes))
    ∷ check Truncated (nat_lt (length bytes) (table_offset bytes + 56 * header_count bytes))
    ∷ []

abbrev pub checks : List ℕ → List Check
checks bytes =
    header_checks bytes
    ++ check NotExec (length (program_headers bytes) == 0)
    ∷ check Truncated (list_any (passes_end bytes) (program_headers bytes))
    ∷ check Overlap (list_any exceeds (program_headers bytes) || any_share (extents (program_headers bytes)))
    ∷ check TooLarge (are_too_large (extents (program_headers bytes)))
    ∷ []

abbrev pub first_fault : List Check → Option ElfFault
first_fault [] = None
first_fault (c ∷ cs) = if c.fails then Some c.fault else first_fault cs

-- the fault of a file, if it has one
abbrev pub fault_of : List ℕ → Option ElfFault
fault_of bytes = first_fault (checks bytes)

-- the fault of a file's header, if it has one: it is found without memory
abbrev pub header_fault_of : List ℕ → Option ElfFault
header_fault_of bytes = first_fault (header_checks bytes)
