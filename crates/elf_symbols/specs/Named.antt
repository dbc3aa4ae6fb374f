-- Sections by their names (System V gABI, "Sections").
use Rattle.std.specs.Prelude.{ℕ, zero, suc, ◌+◌, ◌/◌, ◌%◌, Bool, not, ◌&&◌, List, take, drop, length, nat_lt, ◌==◌, bytes_eq, slice_index, if◌then◌else◌, Option, Some, None}
use Rattle.elf_image.specs.Fields.{number_at}
use Rattle.elf_symbols.specs.declared.sections.Content.{Content}
use Rattle.elf_symbols.specs.declared.named.Section.{Section}
use Rattle.elf_symbols.specs.Sections.{passes_end, has_headers, headers_offset, header_count, content_at, texts_of}

-- the bytes of a part of a file
abbrev pub bytes_of : List ℕ → Content → List ℕ
bytes_of bytes c = take c.size (drop c.start bytes)

-- this text begins some bytes: a zero stands behind it
unfoldable pub begins : List ℕ → List ℕ → Bool
begins name bytes =
    nat_lt (length name) (length bytes) && bytes_eq (take (length name) bytes) name
    && (slice_index bytes (length name) == 0)

-- the section with the header at an offset has this name among these (sh_name), and its bytes stand in the file as they
-- are: its type isn't SHT_NOBITS, 8, and it isn't compressed (sh_flags: SHF_COMPRESSED, 0x800)
unfoldable pub is_named : List ℕ → List ℕ → List ℕ → ℕ → Bool
is_named name bytes names at =
    begins name (drop (number_at 4 at bytes) names)
    && not (number_at 4 (at + 4) bytes == 8) && (number_at 8 (at + 8) bytes / 0x800 % 2 == 0)

-- the offset of the first of n section headers, from an offset on, that has this name; none behind the end of the file
unfoldable pub named_from : List ℕ → List ℕ → List ℕ → ℕ → ℕ → Option ℕ
named_from name bytes names at zero = None
named_from name bytes names at (suc n) =
    if passes_end bytes at 64 then None
    else if is_named name bytes names at then Some at
    else named_from name bytes names (at + 64) n

-- sh_addr
abbrev pub with_address : ℕ → Option Content → Option Section
with_address address None = None
with_address address (Some c) = Some (record { content = c; address = address })

-- the section with the header at an offset
unfoldable pub section_at : List ℕ → ℕ → Option Section
section_at bytes at = with_address (number_at 8 (at + 16) bytes) (content_at bytes at)

abbrev pub section_behind : List ℕ → Option ℕ → Option Section
section_behind bytes None = None
section_behind bytes (Some at) = section_at bytes at

abbrev pub section_among : List ℕ → List ℕ → Option Content → Option Section
section_among name bytes None = None
section_among name bytes (Some names) =
    section_behind bytes
    (named_from name bytes (bytes_of bytes names) (headers_offset bytes) (header_count bytes))

-- the first section of a file that has this name; e_shstrndx is the number of the section with the names
unfoldable pub section_named : List ℕ → List ℕ → Option Section
section_named bytes name =
    if has_headers bytes then section_among name bytes (texts_of bytes (number_at 2 62 bytes)) else None
