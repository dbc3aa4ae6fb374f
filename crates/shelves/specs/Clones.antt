-- Copies of a map whose values are copied.
use Rattle.std.specs.Prelude.{◌≡◌, ℕ, is_some}
use Rattle.std.specs.Ordering.{nat_cmp}
use Rattle.std.specs.FinMap as maps
use Rattle.std.specs.FinMap.{FinMap}

-- the copy has the same keys; and it is the same map, where copies of values are the same
pub record IsShelfClone {V : Type 0} (is_clone : V → V → Type 0) (m n : FinMap nat_cmp V) : Type 0 where
  pub keys : (q : ℕ) → is_some (maps.get n q) ≡ is_some (maps.get m q)
  pub same : ((v w : V) → is_clone v w → w ≡ v) → n ≡ m
