-- The field of the ELF header that a file is refused for.
use Rattle.std.specs.Prelude.{ℕ, ◌+◌, ◌*◌, List, length, nat_lt, ◌==◌, if◌then◌else◌, Option, Some, None}
use Rattle.elf_image.specs.declared.fault.ElfFault.{ElfFault}
use Rattle.elf_image.specs.declared.fault.ElfFault.TheVariants.{NotElf, NotRiscv, NotExec, Truncated, Overlap, TooLarge, Memory}
use Rattle.elf_image.specs.declared.faulty.FaultyField.{FaultyField}
use Rattle.elf_image.specs.declared.faulty.FaultyField.TheVariants.{Machine, Class, Encoding, FileType, HeaderSize, HeaderCount, HeaderTable}
use Rattle.elf_image.specs.Headers.{class, encoding, file_type, machine, table_offset, header_size, header_count}

-- the machine, and then what a file of RISC-V may have besides
unfoldable pub machine_field : List ℕ → Option FaultyField
machine_field bytes =
    if machine bytes == 243 then
    (if class bytes == 2 then (if encoding bytes == 1 then None else Some (Encoding (encoding bytes)))
    else Some (Class (class bytes)))
    else Some (Machine (machine bytes))

-- the type of the file, and then the size and the number of its program headers
unfoldable pub program_field : List ℕ → Option FaultyField
program_field bytes =
    if file_type bytes == 2 then
    (if header_size bytes == 56 then (if header_count bytes == 0 then Some (HeaderCount 0) else None)
    else Some (HeaderSize (header_size bytes)))
    else Some (FileType (file_type bytes))

-- the number of program headers, if it is over 64
abbrev pub count_field : List ℕ → Option FaultyField
count_field bytes = if nat_lt 64 (header_count bytes) then Some (HeaderCount (header_count bytes)) else None

-- the offset of the table of program headers, if the table passes the end
abbrev pub table_field : List ℕ → Option FaultyField
table_field bytes =
    if nat_lt (length bytes) (table_offset bytes + 56 * header_count bytes) then Some (HeaderTable (table_offset bytes))
    else None

abbrev pub field_in : ElfFault → List ℕ → Option FaultyField
field_in NotElf bytes = None
field_in NotRiscv bytes = machine_field bytes
field_in NotExec bytes = program_field bytes
field_in Truncated bytes = table_field bytes
field_in Overlap bytes = None
field_in TooLarge bytes = count_field bytes
field_in Memory bytes = None

-- the field that a file with this fault is refused for, if it is one of a whole ELF header
abbrev pub faulty_field_of : ElfFault → List ℕ → Option FaultyField
faulty_field_of fault bytes = if nat_lt (length bytes) 64 then None else field_in fault bytes
