-- Bytes between quotes, as strace(1) shows them.
use Rattle.std.specs.Prelude.{ℕ, ◌+◌, ◌/◌, ◌%◌, ◌==◌, ◌&&◌, nat_le, Bool, false, List, [], ◌∷◌, ◌++◌, codes}
use Rattle.std.specs.Prelude.{if◌then◌else◌}
use Rattle.std.specs.Fmt.{digits}
use Rattle.std.specs.List.{position_or_len}
use Rattle.tr_values.specs.Sheets.{Sheet, Shown, put, ◌>>=◌}

abbrev pub is_digit : ℕ → Bool
is_digit b = nat_le 48 b && nat_le b 57

abbrev pub begins_with_digit : List ℕ → Bool
begins_with_digit [] = false
begins_with_digit (b ∷ bs) = is_digit b

-- in octal, as short as can be; in three digits where a digit follows
abbrev pub octal_escape : ℕ → Bool → List ℕ
octal_escape b digit_next =
    if digit_next then 92 ∷ (48 + b / 64) ∷ (48 + b / 8 % 8) ∷ (48 + b % 8) ∷ [] else codes "\\" ++ digits 8 false b

abbrev pub escape : ℕ → Bool → List ℕ
escape b digit_next =
    if b == 9 then codes "\\t"
    else (if b == 10 then codes "\\n"
    else (if b == 11 then codes "\\v"
    else (if b == 12 then codes "\\f"
    else (if b == 13 then codes "\\r"
    else (if b == 34 then codes "\\\""
    else (if b == 92 then codes "\\\\"
    else (if nat_le 32 b && nat_le b 126 then b ∷ [] else octal_escape b digit_next)))))))

unfoldable pub escaped : List ℕ → List ℕ
escaped [] = []
escaped (b ∷ bs) = escape b (begins_with_digit bs) ++ escaped bs

unfoldable pub quoted : List ℕ → Sheet → Shown
quoted bs s = put (codes "\"" ++ (escaped bs ++ codes "\"")) s

-- bytes of which there are more
abbrev pub cut : List ℕ → Sheet → Shown
cut bs s = do
  s ← quoted bs s
  put (codes "...") s

-- how many stand before the first NUL
abbrev pub nul_at : List ℕ → ℕ
nul_at bs = position_or_len (λ b. b == 0) bs
