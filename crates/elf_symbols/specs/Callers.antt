-- The function that made a call.
use Rattle.std.specs.Prelude.{ℕ, ◌-◌, Bool, ◌||◌, cond, List, [], ◌∷◌, ◌==◌, Option, Some, None, bytes_eq, codes}
use Rattle.elf_symbols.specs.declared.symbols.Function.{Function}
use Rattle.elf_symbols.specs.Addresses.{function_at}
use Rattle.elf_symbols.specs.Symbols.{name_of}

-- a name without an underscore (byte 95) before it
abbrev pub bare : List ℕ → List ℕ
bare [] = []
bare (b ∷ bs) = cond (b == 95) bs (b ∷ bs)

-- a C library's own function for the call of this name: its name is the call's, one or two underscores before it or
-- none, or it makes any call
unfoldable pub is_wrapper : List ℕ → List ℕ → Bool
is_wrapper call name =
    bytes_eq (bare (bare name)) call || bytes_eq name (codes "syscall") || bytes_eq name (codes "linux_call")

abbrev pub either : Option Function → Function → Option Function
either None f = Some f
either (Some g) f = Some g

abbrev pub past_wrapper : List ℕ → List Function → List ℕ → ℕ → Option Function → Option Function
past_wrapper bytes fs call ra None = None
past_wrapper bytes fs call ra (Some f) =
    cond (is_wrapper call (name_of bytes f)) (either (function_at fs (ra - 1)) f) (Some f)

-- the function in which the instruction lies that makes the call; where that is a C library's own function for it, the
-- one in which the instruction before ra lies, if there is one: it has called that function
abbrev pub caller_of : List ℕ → List Function → List ℕ → ℕ → ℕ → Option Function
caller_of bytes fs call pc ra = past_wrapper bytes fs call ra (function_at fs pc)
