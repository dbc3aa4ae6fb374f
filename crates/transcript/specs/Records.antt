-- The record of what was said, and what a step tells.
use Rattle.std.specs.Prelude.{ℕ, ◌≡◌, ◌==◌, true, List, [], ◌∷◌, ◌++◌, length, MatchBool}
use Rattle.logbook.specs.Pages.{Cell, Step, View, Book, Named}
use Rattle.transcript.specs.declared.said.Said.{Said}

-- the first word is how much was said; a book has two words, of which the second stays 0
abbrev pub IsKept : List Cell → List Said → Type 0
IsKept cells log = cells ≡ (length log, true) ∷ (0, true) ∷ []

abbrev pub head_of : Book → Named
head_of b = record { tracked = true; key = 0; book = b }

-- something was said behind all that was known; or more was said than that
abbrev pub Adds : Step Said → View Said ℕ → ℕ → View Said ℕ → Type 0
Adds s v found w = MatchBool (found == s.old) (w.0 ≡ v.0 ++ s.ask ∷ []) (length w.0 ≡ found)
