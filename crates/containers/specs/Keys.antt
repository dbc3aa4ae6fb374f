-- The keys of a map in their order.
use Rattle.std.specs.Prelude.{◌≡◌, ℕ, ◌<◌, Option, Some, None, IsSome}
use Rattle.std.specs.Ordering.{nat_cmp}
use Rattle.std.specs.FinMap as maps
use Rattle.std.specs.FinMap.{FinMap}

-- the least key above a number, if there is one
abbrev pub IsNextKey : {X : Type 0} → FinMap nat_cmp X → ℕ → Option ℕ → Type 0
IsNextKey m n None = (q : ℕ) → n < q → maps.get m q ≡ None
IsNextKey m n (Some key) = (n < key) × IsSome (maps.get m key) × ((q : ℕ) → n < q → q < key → maps.get m q ≡ None)
