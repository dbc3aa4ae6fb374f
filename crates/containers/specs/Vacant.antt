-- The least number that is no key of a map.
use Rattle.std.specs.Prelude.{◌≡◌, ℕ, ◌+◌, ◌==◌, ◌<◌, List, [], ◌∷◌, None, IsSome, if◌then◌else◌}
use Rattle.std.specs.Ordering.{nat_cmp}
use Rattle.std.specs.FinMap as maps
use Rattle.std.specs.FinMap.{FinMap}

-- the first number from n on that is no key of these entries, whose keys rise
abbrev pub first_gap : {X : Type 0} → List (ℕ × X) → ℕ → ℕ
first_gap [] n = n
first_gap (e ∷ es) n = if e.0 == n then first_gap es (n + 1) else n

unfoldable pub vacant : {X : Type 0} → FinMap nat_cmp X → ℕ
vacant m = first_gap (maps.entries m) 0

-- each number below is a key
abbrev pub IsFullBelow : {X : Type 0} → FinMap nat_cmp X → ℕ → Type 0
IsFullBelow m n = (q : ℕ) → q < n → IsSome (maps.get m q)

-- it is no key, and each number below is one
abbrev pub IsLeastVacant : {X : Type 0} → FinMap nat_cmp X → ℕ → Type 0
IsLeastVacant m n = (maps.get m n ≡ None) × IsFullBelow m n
