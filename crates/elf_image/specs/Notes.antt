-- What a file says of its program beside the image.
use Rattle.std.specs.Prelude.{ℕ, zero, suc, ◌+◌, ◌%◌, Bool, ◌&&◌, List, [], length, take, drop, nat_le, nat_lt, ◌==◌, if◌then◌else◌, Option, Some, None}
use Rattle.elf_image.specs.Fields.{number_at}
use Rattle.elf_image.specs.Headers.{table_offset, header_count}

-- e_flags has EF_RISCV_RVC, 1 (RISC-V ELF psABI, "File Header")
unfoldable pub is_compressed : List ℕ → Bool
is_compressed bytes = nat_le 64 (length bytes) && (number_at 4 48 bytes % 2 == 1)

-- the offset of the first of n program headers, from an offset on, that has this type; none behind the end of the file
unfoldable pub header_from : ℕ → List ℕ → ℕ → ℕ → Option ℕ
header_from kind bytes at zero = None
header_from kind bytes at (suc n) =
    if nat_lt (length bytes) (at + 56) then None
    else if number_at 4 at bytes == kind then Some at
    else header_from kind bytes (at + 56) n

-- the offset of the first program header of a type
abbrev pub header_of : ℕ → List ℕ → Option ℕ
header_of kind bytes =
    if nat_lt (length bytes) 64 then None else header_from kind bytes (table_offset bytes) (header_count bytes)

-- what the program header at an offset leads to; nothing, where that passes the end of the file
unfoldable pub content_at : List ℕ → ℕ → List ℕ
content_at bytes at =
    if nat_lt (length bytes) (number_at 8 (at + 8) bytes + number_at 8 (at + 32) bytes) then []
    else take (number_at 8 (at + 32) bytes) (drop (number_at 8 (at + 8) bytes) bytes)
