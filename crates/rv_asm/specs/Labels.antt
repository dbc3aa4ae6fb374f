-- Labels and the numbers of the first of each name.
use Rattle.std.specs.Prelude.{◌≡◌, ℕ, ◌<◌, List, length, slice_get, Option, Some}
use Rattle.std.specs.Option.{option_and_then}
use Rattle.std.specs.Ordering.{nat_cmp}
use Rattle.std.specs.Cmp.Lexicographic.{slice_cmp}
use Rattle.std.specs.BTreeMap.{BTreeMap, get_by}
use Rattle.rv_asm.specs.Codes.{Location, place_named}

-- the number that stands at a name; keys are texts in some form
abbrev pub number_of : {K : Type 0} → (K → List ℕ) → BTreeMap K ℕ → List ℕ → Option ℕ
number_of text first w = get_by (λ k. slice_cmp nat_cmp w (text k)) first

-- a name has the number of its first label, and none if no label has the name
pub record IsIndex {K : Type 0} (text : K → List ℕ) (first : BTreeMap K ℕ) (ps : List Location) : Type 0 where
  pub within : (w : List ℕ) (i : ℕ) → number_of text first w ≡ Some i → i < length ps
  pub named : (w : List ℕ) → option_and_then (slice_get ps) (number_of text first w) ≡ place_named ps w
