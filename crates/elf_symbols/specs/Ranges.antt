-- Ranges of addresses, of anything that has one: `start` gives its first address, `stop` the one behind its last.
use Rattle.std.specs.Prelude.{◌≡◌, ℕ, ◌<◌, Bool, true, ◌&&◌, List, [], ◌∷◌, nat_le, nat_lt, if◌then◌else◌, Option, Some, None}
use Rattle.std.specs.List.{All, Contains}
use Rattle.std.specs.List.Sorted.{IsPermutation, IsNonDecreasingBy}

abbrev pub covers : {X : Type 0} → (X → ℕ) → (X → ℕ) → X → ℕ → Bool
covers start stop x address = nat_le (start x) address && nat_lt address (stop x)

-- the last of those before the first that begins above the address
abbrev pub last_by : {X : Type 0} → (X → ℕ) → ℕ → Option X → List X → Option X
last_by start address so_far [] = so_far
last_by start address so_far (x ∷ xs) =
    if nat_le (start x) address then last_by start address (Some x) xs else so_far

abbrev pub covering : {X : Type 0} → (X → ℕ) → ℕ → Option X → Option X
covering stop address None = None
covering stop address (Some x) = if nat_lt address (stop x) then Some x else None

-- of ranges in the order of their starts the last that begins at or below the address, if it covers the address
abbrev pub range_at : {X : Type 0} → (X → ℕ) → (X → ℕ) → List X → ℕ → Option X
range_at start stop xs address = covering stop address (last_by start address None xs)

-- ---- an index, and when it tells all

-- the same ranges in the order of their starts
abbrev pub IsIndex : {X : Type 0} → (X → ℕ) → List X → List X → Type 0
IsIndex start xs index = IsPermutation xs index × IsNonDecreasingBy start index

-- none is empty, and two that cover one address are the same
abbrev pub AreApart : {X : Type 0} → (X → ℕ) → (X → ℕ) → List X → Type 0
AreApart {X} start stop xs =
    All (λ x. start x < stop x) xs
    × ((x y : X) (address : ℕ) → Contains xs x → Contains xs y → covers start stop x address ≡ true
    → covers start stop y address ≡ true → x ≡ y)
