-- The text of a line: names, marks, blanks and the comment at its end.
use Rattle.std.specs.Prelude.{ℕ, ◌+◌, Bool, ◌||◌, ◌&&◌, not, List, [], ◌∷◌, length, map, take, drop, Option, Some, None, nat_eq, nat_le, ◌==◌, if◌then◌else◌}
use Rattle.std.proofs.Common.{Bor}
use Rattle.std.specs.Cmp.Lexicographic.{pointwise}

-- space, tab, carriage return
abbrev pub is_blank : ℕ → Bool
is_blank b = (b == 32) || (b == 9) || (b == 13)

abbrev pub is_between : ℕ → ℕ → ℕ → Bool
is_between low high b = nat_le low b && nat_le b high

abbrev pub is_digit : ℕ → Bool
is_digit b = is_between 48 57 b

-- letters, digits and _ . $
abbrev pub is_name_byte : ℕ → Bool
is_name_byte b = is_between 65 90 b || is_between 97 122 b || is_digit b || (b == 95) || (b == 46) || (b == 36)

-- how many of the first bytes pass
abbrev pub run : (ℕ → Bool) → List ℕ → ℕ
run p [] = 0
run p (b ∷ bs) = if p b then run p bs + 1 else 0

-- what follows the blanks
unfoldable pub skipped : List ℕ → List ℕ
skipped t = drop (run is_blank t) t

-- the word that a text begins with, behind blanks, and what follows it
unfoldable pub word_at : List ℕ → List ℕ × List ℕ
word_at t = (take (run is_name_byte (skipped t)) (skipped t), drop (run is_name_byte (skipped t)) (skipped t))

abbrev pub after_first : ℕ → List ℕ → Option (List ℕ)
after_first c [] = None
after_first c (b ∷ bs) = if b == c then Some bs else None

-- what follows a byte, behind blanks, if the text begins with it
unfoldable pub after_mark : ℕ → List ℕ → Option (List ℕ)
after_mark c t = after_first c (skipped t)

-- a byte that is not #
abbrev pub is_code : ℕ → Bool
is_code b = not (b == 35)

-- the text before its comment
unfoldable pub uncommented : List ℕ → List ℕ
uncommented t = take (run is_code t) t

-- there is nothing but blanks and a comment
unfoldable pub is_done : List ℕ → Bool
is_done t = length (uncommented (skipped t)) == 0

-- two texts are the same
abbrev pub is_text : List ℕ → List ℕ → Bool
is_text a b = pointwise nat_eq a b

-- the texts behind references
abbrev pub texts : List (Bor (List ℕ)) → List (List ℕ)
texts ls = map (λ l. l.now) ls
