-- Numbers in a text.
use Rattle.std.specs.Prelude.{ℕ, List, [], ◌∷◌, Option, Some, None, Bool, true, ◌&&◌, if◌then◌else◌, nat_lt, nat_le}
use Rattle.std.specs.Prelude.{length}
use Rattle.std.specs.Char.{digit_value}
use Rattle.std.specs.Str.Parse.{digits_value}

-- each byte is a digit in the radix
abbrev pub all_digits : ℕ → List ℕ → Bool
all_digits radix [] = true
all_digits radix (c ∷ cs) = nat_lt (digit_value c) radix && all_digits radix cs

-- one digit or more, and nothing else
abbrev pub is_numeral : ℕ → List ℕ → Bool
is_numeral radix ds = nat_lt 0 (length ds) && all_digits radix ds

abbrev pub within : ℕ → ℕ → ℕ → Bool
within low high n = nat_le low n && nat_le n high

-- the number that the digits spell, if it lies in the range
abbrev pub number : ℕ → ℕ → ℕ → List ℕ → Option ℕ
number radix low high ds =
    if is_numeral radix ds && within low high (digits_value radix ds) then Some (digits_value radix ds)
    else None
