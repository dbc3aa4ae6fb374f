-- Sections (System V gABI, "Sections"): where a file's symbol table stands, and where the names of its symbols do.
use Rattle.std.specs.Prelude.{ℕ, zero, suc, ◌+◌, ◌*◌, Bool, ◌&&◌, ◌||◌, List, length, nat_le, nat_lt, ◌==◌, if◌then◌else◌, Option, Some, None}
use Rattle.elf_image.specs.Fields.{number_at}
use Rattle.elf_image.specs.Headers.{magic, class, encoding}
use Rattle.elf_symbols.specs.declared.sections.Content.{Content}
use Rattle.elf_symbols.specs.declared.sections.SymbolTable.{SymbolTable}

-- so many bytes from an offset on pass the end of the file
abbrev pub passes_end : List ℕ → ℕ → ℕ → Bool
passes_end bytes at size = nat_lt (length bytes) (at + size)

-- ---- the ELF header

-- ELFCLASS64 2, ELFDATA2LSB 1, and e_shentsize
unfoldable pub is_wide : List ℕ → Bool
is_wide bytes =
    (magic bytes == 0x464c457f) && (class bytes == 2) && (encoding bytes == 1) && (number_at 2 58 bytes == 64)

-- a file of 64 bits, the lowest byte first, whose section headers have 64 bytes each
unfoldable pub has_headers : List ℕ → Bool
has_headers bytes = nat_le 64 (length bytes) && is_wide bytes

-- e_shoff and e_shnum
abbrev pub headers_offset : List ℕ → ℕ
headers_offset bytes = number_at 8 40 bytes

abbrev pub header_count : List ℕ → ℕ
header_count bytes = number_at 2 60 bytes

-- ---- section headers

-- the offset of the first of n section headers, from an offset on, of a symbol table (sh_type SHT_SYMTAB, 2); none
-- behind the end of the file
unfoldable pub header_from : List ℕ → ℕ → ℕ → Option ℕ
header_from bytes at zero = None
header_from bytes at (suc n) =
    if passes_end bytes at 64 then None
    else if number_at 4 (at + 4) bytes == 2 then Some at
    else header_from bytes (at + 64) n

-- the offset of the header of the symbol table
abbrev pub header_of : List ℕ → Option ℕ
header_of bytes = if has_headers bytes then header_from bytes (headers_offset bytes) (header_count bytes) else None

-- what the section with the header at an offset has in the file: sh_offset, sh_size
unfoldable pub content_at : List ℕ → ℕ → Option Content
content_at bytes at =
    if passes_end bytes (number_at 8 (at + 24) bytes) (number_at 8 (at + 32) bytes) then None
    else Some (record { start = number_at 8 (at + 24) bytes; size = number_at 8 (at + 32) bytes })

-- what a section of texts has (SHT_STRTAB, 3)
unfoldable pub texts_at : List ℕ → ℕ → Option Content
texts_at bytes at = if number_at 4 (at + 4) bytes == 3 then content_at bytes at else None

-- .. of the section that has this number
unfoldable pub texts_of : List ℕ → ℕ → Option Content
texts_of bytes number =
    if nat_le (header_count bytes) number || passes_end bytes (headers_offset bytes) (64 * number + 64) then None
    else texts_at bytes (headers_offset bytes + 64 * number)

-- ---- the symbol table

abbrev pub with_names : Content → Option Content → Option SymbolTable
with_names symbols None = None
with_names symbols (Some names) = Some (record { symbols = symbols; names = names })

abbrev pub with_symbols : Option Content → Option Content → Option SymbolTable
with_symbols None names = None
with_symbols (Some symbols) names = with_names symbols names

-- the table with the header at an offset: symbols of 24 bytes (sh_entsize), names in the section that sh_link numbers
unfoldable pub table_at : List ℕ → ℕ → Option SymbolTable
table_at bytes at =
    if number_at 8 (at + 56) bytes == 24
    then with_symbols (content_at bytes at) (texts_of bytes (number_at 4 (at + 40) bytes))
    else None

abbrev pub table_behind : List ℕ → Option ℕ → Option SymbolTable
table_behind bytes None = None
table_behind bytes (Some at) = table_at bytes at

-- the symbol table of a file, if it has one
abbrev pub table_of : List ℕ → Option SymbolTable
table_of bytes = table_behind bytes (header_of bytes)
