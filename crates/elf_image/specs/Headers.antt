-- The ELF header and the program headers (gABI, "ELF Header" and "Program Header"): fields by their offsets.
use Rattle.std.specs.Prelude.{ℕ, zero, suc, ◌+◌, Bool, ◌&&◌, List, [], ◌∷◌, map, nat_lt, ◌==◌, if◌then◌else◌}
use Rattle.elf_image.specs.declared.headers.ProgramHeader.{ProgramHeader}
use Rattle.elf_image.specs.declared.layout.Extent.{Extent}
use Rattle.elf_image.specs.Fields.{number_at}

-- ---- the ELF header

abbrev pub magic : List ℕ → ℕ
magic bytes = number_at 4 0 bytes

abbrev pub class : List ℕ → ℕ
class bytes = number_at 1 4 bytes

abbrev pub encoding : List ℕ → ℕ
encoding bytes = number_at 1 5 bytes

abbrev pub file_type : List ℕ → ℕ
file_type bytes = number_at 2 16 bytes

abbrev pub machine : List ℕ → ℕ
machine bytes = number_at 2 18 bytes

abbrev pub entry : List ℕ → ℕ
entry bytes = number_at 8 24 bytes

abbrev pub table_offset : List ℕ → ℕ
table_offset bytes = number_at 8 32 bytes

abbrev pub header_size : List ℕ → ℕ
header_size bytes = number_at 2 54 bytes

abbrev pub header_count : List ℕ → ℕ
header_count bytes = number_at 2 56 bytes

-- ---- program headers, of 56 bytes each

-- the header at an offset counts: its type is PT_LOAD, 1, and its size in memory is above 0
abbrev pub is_counted : List ℕ → ℕ → Bool
is_counted bytes at = (number_at 4 at bytes == 1) && nat_lt 0 (number_at 8 (at + 40) bytes)

abbrev pub program_header_at : List ℕ → ℕ → ProgramHeader
program_header_at bytes at = record {
  flags = number_at 4 (at + 4) bytes;
  offset = number_at 8 (at + 8) bytes;
  file_size = number_at 8 (at + 32) bytes;
  extent = record { address = number_at 8 (at + 16) bytes; size = number_at 8 (at + 40) bytes };
}

-- those that count, of n headers from an offset on
unfoldable pub headers_from : List ℕ → ℕ → ℕ → List ProgramHeader
headers_from bytes at zero = []
headers_from bytes at (suc n) =
    if is_counted bytes at
    then program_header_at bytes at ∷ headers_from bytes (at + 56) n
    else headers_from bytes (at + 56) n

-- the program headers of a file that count
abbrev pub program_headers : List ℕ → List ProgramHeader
program_headers bytes = headers_from bytes (table_offset bytes) (header_count bytes)

-- the memory that they fill
abbrev pub extents : List ProgramHeader → List Extent
extents headers = map (λ h. h.extent) headers
