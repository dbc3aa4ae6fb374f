-- The variables that words NAME=VALUE set.
use Rattle.std.specs.Prelude.{◌≡◌, ℕ, Bool, false, true, List, [], ◌∷◌, ◌++◌, Option, Some, None, is_some, option_map, cond, bytes_eq}
use Rattle.std.specs.List.{list_all, list_any}
use Rattle.std.specs.Ordering.{nat_cmp}
use Rattle.std.specs.Cmp.Lexicographic.{slice_cmp}
use Rattle.std.specs.BTreeSet.{BTreeSet, contains_by}
use Rattle.front_boot.specs.Directories.{divided}
use Rattle.std.specs.Borrow.{Bor}

abbrev pub name_of : List ℕ → Option (List ℕ)
name_of word = option_map (λ parts. parts.0) (divided word)

abbrev pub are_variables : List (List ℕ) → Bool
are_variables words = list_all (λ word. is_some (name_of word)) words

abbrev pub is_named : List ℕ → Option (List ℕ) → Bool
is_named name None = false
is_named name (Some n) = bytes_eq n name

-- one of the words sets the variable of this name
abbrev pub set_by : List (List ℕ) → List ℕ → Bool
set_by words name = list_any (λ word. is_named name (name_of word)) words

abbrev pub is_set_by : List (List ℕ) → Option (List ℕ) → Bool
is_set_by words None = false
is_set_by words (Some name) = set_by words name

-- of the words that set one variable the last
abbrev pub environment : List (List ℕ) → List (List ℕ)
environment [] = []
environment (word ∷ words) =
    cond (is_set_by words (name_of word)) (environment words) (word ∷ environment words)

-- the words with one more, if it isn't left out
abbrev pub with_word : Bool → List ℕ → List (List ℕ) → List (List ℕ)
with_word left_out word words = cond left_out words (words ++ word ∷ [])

-- a set has the name
abbrev pub has : BTreeSet (Bor (List ℕ)) → List ℕ → Bool
has names name = contains_by (λ n. slice_cmp nat_cmp name n.now) names

abbrev pub has_in : BTreeSet (Bor (List ℕ)) → Option (List ℕ) → Bool
has_in names None = false
has_in names (Some name) = has names name

-- it has this name too, where there is one
abbrev pub HasMore : Option (List ℕ) → BTreeSet (Bor (List ℕ)) → BTreeSet (Bor (List ℕ)) → Type 0
HasMore None old new = (n : List ℕ) → has new n ≡ has old n
HasMore (Some name) old new = (n : List ℕ) → has new n ≡ cond (bytes_eq name n) true (has old n)
