-- Sums over what a map holds.
use Rattle.std.specs.Prelude.{◌≡◌, ℕ, ◌+◌, ◌-◌, nat_lt, Bool, List, [], ◌∷◌, Option, Some, None, if◌then◌else◌}
use Rattle.std.specs.Option.{unwrap_or}
use Rattle.std.specs.declared.cmp.Ordering.{Ordering}
use Rattle.std.specs.FinMap as maps
use Rattle.std.specs.FinMap.{FinMap}
use Rattle.lx_files.specs.declared.counts.Counts.{Counts}

abbrev pub sum_of : {K X : Type 0} → (X → ℕ) → List (K × X) → ℕ
sum_of f [] = 0
sum_of f (e ∷ es) = f e.1 + sum_of f es

-- the sum of f over what the map holds
unfoldable pub total : {K X : Type 0} {R : K → K → Ordering} → (X → ℕ) → FinMap R X → ℕ
total f m = sum_of f (maps.entries m)

abbrev pub one_if : Bool → ℕ
one_if b = if b then 1 else 0

-- what a value that may be there adds to it
abbrev pub weight : {X : Type 0} → (X → ℕ) → Option X → ℕ
weight f None = 0
weight f (Some x) = f x

-- how many values pass a test
abbrev pub how_many : {K X : Type 0} {R : K → K → Ordering} → (X → Bool) → FinMap R X → ℕ
how_many p m = total (λ x. one_if (p x)) m

-- some value passes it
abbrev pub holds : {K X : Type 0} {R : K → K → Ordering} → (X → Bool) → FinMap R X → Bool
holds p m = nat_lt 0 (how_many p m)

-- Counts kept beside a map.

abbrev pub count_of : Counts → ℕ → ℕ
count_of c n = unwrap_or (maps.get c.counts n) 0

-- one less where a value was there that passes a test
abbrev pub Forgets : {X : Type 0} → (ℕ → X → Bool) → Option X → Counts → Counts → Type 0
Forgets p was c d = (n : ℕ) → count_of d n ≡ count_of c n - weight (λ x. one_if (p n x)) was

-- each count is that of a test
abbrev pub Agree : {K X : Type 0} {R : K → K → Ordering} → Counts → (ℕ → X → Bool) → FinMap R X → Type 0
Agree c p m = (n : ℕ) → count_of c n ≡ how_many (p n) m
