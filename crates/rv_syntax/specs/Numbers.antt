-- Numbers: decimal, or hexadecimal behind 0x, perhaps negative.
use Rattle.std.specs.Prelude.{ℕ, ◌+◌, ◌-◌, ◌*◌, ◌^◌, ◌%◌, Bool, true, false, ◌||◌, ◌&&◌, List, [], ◌∷◌, length, drop, slice_index, Option, Some, None, option_map, nat_lt, min, ◌==◌, if◌then◌else◌, ℤ, pos, neg_ℤ}
use Rattle.rv_syntax.specs.Text.{is_between, word_at, after_mark}
use Rattle.rv_syntax.specs.declared.numbers.Number.{Number}

-- the value of a digit, or 16
abbrev pub digit : ℕ → ℕ
digit b =
    if is_between 48 57 b then b - 48 else (if is_between 97 102 b then b - 87 else
    (if is_between 65 70 b then b - 55 else 16))

-- no operand has room for 2 ^ 64, so the numbers from there on are alike
abbrev pub more : ℕ → ℕ → ℕ → ℕ
more base n d = min (base * n + d) (2 ^ 64)

abbrev pub digits : ℕ → ℕ → List ℕ → Option ℕ
digits base n [] = Some n
digits base n (b ∷ bs) = if nat_lt (digit b) base then digits base (more base n (digit b)) bs else None

abbrev pub digits_of : ℕ → List ℕ → Option ℕ
digits_of base w = if length w == 0 then None else digits base 0 w

unfoldable pub magnitude_of : List ℕ → Option ℕ
magnitude_of w = if (slice_index w 0 == 48) && (slice_index w 1 == 120) then digits_of 16 (drop 2 w) else digits_of 10 w

abbrev pub signed : Bool → ℕ → Number
signed b n = record { negative = b; magnitude = n }

-- a number and what follows it
abbrev pub with_sign : Bool → List ℕ × List ℕ → Option (Number × List ℕ)
with_sign b w = option_map (λ n. (signed b n, w.1)) (magnitude_of w.0)

abbrev pub by_sign : Option (List ℕ) → List ℕ → Option (Number × List ℕ)
by_sign (Some rest) t = with_sign true (word_at rest)
by_sign None t = with_sign false (word_at t)

unfoldable pub number_at : List ℕ → Option (Number × List ℕ)
number_at t = by_sign (after_mark 45 t) t

-- the number is from -limit to limit - 1
abbrev pub is_within : ℕ → Number → Bool
is_within limit n = nat_lt n.magnitude limit || (n.negative && (n.magnitude == limit))

-- the number in 64 bits, in two's complement
abbrev pub low_bits : Number → ℕ
low_bits n = if n.negative then (2 ^ 64 - n.magnitude) % 2 ^ 64 else n.magnitude % 2 ^ 64

-- as an instruction holds it: no field has room for the ends
abbrev pub narrow : Number → ℤ
narrow n = if n.negative then neg_ℤ (pos (min n.magnitude 0x7fffffff)) else pos (min n.magnitude 0x7fffffff)

-- the same for a field without a sign: none has room for the end
abbrev pub narrow_unsigned : Number → ℕ
narrow_unsigned n = if n.negative && nat_lt 0 n.magnitude then 0xffffffff else min n.magnitude 0xffffffff
