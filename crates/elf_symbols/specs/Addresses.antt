-- The function in which an address lies.
use Rattle.std.specs.Prelude.{◌≡◌, ℕ, ◌+◌, Bool, true, false, ◌&&◌, ◌||◌, cond, List, [], ◌∷◌, nat_le, nat_lt, ◌==◌, Option, Some, None, All}
use Rattle.std.specs.List.{Contains}
use Rattle.elf_symbols.specs.declared.symbols.Function.{Function}

-- st_value and st_size: the address is one of the function's
abbrev pub lies_in : ℕ → Function → Bool
lies_in address f = nat_le f.start address && nat_lt address (f.start + f.size)

-- a function is nearer than another that begins later, or there with a shorter name
abbrev pub is_nearer : Function → Function → Bool
is_nearer f g = nat_lt g.start f.start || ((f.start == g.start) && nat_lt f.length g.length)

abbrev pub nearest : Option Function → Function → Option Function
nearest None f = Some f
nearest (Some g) f = cond (is_nearer f g) (Some f) (Some g)

abbrev pub met : ℕ → Option Function → Function → Option Function
met address so_far f = cond (lies_in address f) (nearest so_far f) so_far

abbrev pub function_from : ℕ → Option Function → List Function → Option Function
function_from address so_far [] = so_far
function_from address so_far (f ∷ fs) = function_from address (met address so_far f) fs

-- of these functions the nearest in which the address lies, the first of those that are equally near
abbrev pub function_at : List Function → ℕ → Option Function
function_at fs address = function_from address None fs

-- ---- what that says: the address lies in the function, which is one of these, and none in which it lies is nearer;
-- or it lies in none of them

abbrev pub IsAt : List Function → ℕ → Option Function → Type 0
IsAt fs address None = All (λ g. lies_in address g ≡ false) fs
IsAt fs address (Some f) =
    Contains fs f × (lies_in address f ≡ true) × All (λ g. lies_in address g ≡ true → is_nearer g f ≡ false) fs
