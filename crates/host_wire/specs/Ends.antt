-- Readers by what they gave, and what a failed write may have done.
use Rattle.std.specs.Prelude.{◌≡◌, ℕ, List, [], ◌∷◌, ◌++◌, length, Option, Result, Ok, Err}
use Rattle.std.specs.Io.KnownBytes.{Appends}

pub record Input : Type 0 where
  -- the bytes that are left, where these are known
  pub remaining : Option (List ℕ)
  -- how many bytes each read gave: 0 at the end of input, and where it failed
  pub reads : List ℕ
  -- 1 once it has failed
  pub broken : ℕ

-- how many bytes a read gave
abbrev pub count_of : {E : Type 0} → Result ℕ E → ℕ
count_of (Ok n) = n
count_of (Err fault) = 0

-- one put was made, of these bytes
abbrev pub IsPut : List ℕ → List ℕ → List ℕ → Type 0
IsPut old new bytes = new ≡ old ++ length bytes ∷ []

-- known bytes grow by a first part of these
abbrev pub AppendsPart : Option (List ℕ) → Option (List ℕ) → List ℕ → Type 0
AppendsPart old new bytes = (done : List ℕ) × ((left : List ℕ) × ((done ++ left ≡ bytes) × Appends old new done))
