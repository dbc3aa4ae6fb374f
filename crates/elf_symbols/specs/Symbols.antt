-- Symbols (System V gABI, "Symbol Table"): the functions that a table names.
use Rattle.std.specs.Prelude.{ℕ, zero, suc, ◌+◌, ◌-◌, ◌/◌, ◌%◌, Bool, ◌&&◌, cond, List, [], ◌∷◌, length, take, drop, nat_lt, ◌==◌, if◌then◌else◌, Option, Some, None}
use Rattle.elf_image.specs.Fields.{number_at}
use Rattle.elf_symbols.specs.declared.sections.Content.{Content}
use Rattle.elf_symbols.specs.declared.sections.SymbolTable.{SymbolTable}
use Rattle.elf_symbols.specs.declared.symbols.Function.{Function}
use Rattle.elf_symbols.specs.Sections.{table_of}

-- how many bytes stand before the first zero
abbrev pub text_length : List ℕ → ℕ
text_length [] = 0
text_length (b ∷ bs) = cond (b == 0) 0 (suc (text_length bs))

-- the symbol at an offset is a function's (st_info: STT_FUNC, 2), and has a name (st_name) among these
abbrev pub is_function : List ℕ → Content → ℕ → Bool
is_function bytes names at =
    (number_at 1 (at + 4) bytes % 16 == 2) && nat_lt 0 (number_at 4 at bytes)
    && nat_lt (number_at 4 at bytes) names.size

-- how many bytes are looked at for a name, where so many are left: of a longer name the first 4,096 are told
abbrev pub room_of : ℕ → ℕ
room_of left = if nat_lt left 4096 then left else 4096

-- it: st_value, st_size, and its name, which ends before a zero, with all names or after 4,096 bytes
abbrev pub function_of : List ℕ → Content → ℕ → Function
function_of bytes names at = record {
  start = number_at 8 (at + 8) bytes;
  size = number_at 8 (at + 16) bytes;
  name = names.start + number_at 4 at bytes;
  length =
      text_length
      (take (room_of (names.size - number_at 4 at bytes)) (drop (names.start + number_at 4 at bytes) bytes));
}

-- the functions among n symbols, of 24 bytes each, from an offset on
unfoldable pub functions_from : List ℕ → Content → ℕ → ℕ → List Function
functions_from bytes names at zero = []
functions_from bytes names at (suc n) =
    if is_function bytes names at
    then function_of bytes names at ∷ functions_from bytes names (at + 24) n
    else functions_from bytes names (at + 24) n

abbrev pub functions_in : List ℕ → Option SymbolTable → List Function
functions_in bytes None = []
functions_in bytes (Some t) = functions_from bytes t.names t.symbols.start (t.symbols.size / 24)

-- the functions that the symbol table of a file names, in its order; none, where it has no such table
abbrev pub functions_of : List ℕ → List Function
functions_of bytes = functions_in bytes (table_of bytes)

-- the name of a function of this file
unfoldable pub name_of : List ℕ → Function → List ℕ
name_of bytes f = if nat_lt (length bytes) (f.name + f.length) then [] else take f.length (drop f.name bytes)
