-- Lines of known findings, in which a `*` stands for any text.
use Rattle.std.specs.Prelude.{◌≡◌, ◌⊎◌, ℕ, ◌==◌, Bool, true, false, List, [], ◌∷◌, ◌++◌, Option}
use Rattle.std.specs.Prelude.{Some, None, String, codes}
use Rattle.std.specs.String.{string_bytes}
use Rattle.front_end.specs.Texts.{IsAbout}
use Rattle.front_end.specs.declared.fault.Fault.{Fault}

-- any text, and then the pattern
abbrev pub star : List ℕ → List ℕ
star pattern = 42 ∷ pattern

-- Q is said of what is left of the text behind this character of a pattern
abbrev pub IsBehind : Bool → ℕ → (List ℕ → Type 0) → List ℕ → Type 0
IsBehind true c Q text = (front : List ℕ) × (rest : List ℕ) × (text ≡ front ++ rest) × Q rest
IsBehind false c Q text = (rest : List ℕ) × (text ≡ c ∷ rest) × Q rest

-- the text is the pattern's, in which a `*` (character 42) stands for any text
abbrev pub IsLike : List ℕ → List ℕ → Type 0
IsLike text [] = text ≡ []
IsLike text (c ∷ cs) = IsBehind (c == 42) c (λ rest. IsLike rest cs) text

-- it is that of one of these lines
abbrev pub IsKnown : {Z : Type 0} → List (String Z) → List ℕ → Type 0
IsKnown [] text = ⊥
IsKnown (l ∷ ls) text = IsLike text (string_bytes l) ⊎ IsKnown ls text

-- ---- the file that has them

-- where one is named
abbrev pub RefusesKnown : Option (List ℕ) → Fault → Type 0
RefusesKnown None fault = ⊥
RefusesKnown (Some path) fault = IsAbout (codes "--known ") fault
