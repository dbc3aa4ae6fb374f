-- A search of the entries of a map, in the order of their keys.
use Rattle.std.proofs.Common.{◌≡◌, ℕ, ◌<◌, ◌≤◌, Bool, true, false, None, refl, subst, arith}
use Rattle.std.specs.Prelude.{nat_le, nat_lt}
use Rattle.std.proofs.lemmas.Bool.Decides.{nat_tests}
use Rattle.std.specs.Ordering.{nat_cmp}
use Rattle.std.specs.FinMap as maps
use Rattle.std.specs.FinMap.{FinMap}

-- what isn't in the map doesn't pass
module _ {X : Type 0} (m : FinMap nat_cmp X) (test : ℕ → Bool) (absent : (n : ℕ) → maps.get m n ≡ None → test n ≡ false) where
  abbrev pub None_to : ℕ → ℕ → Type 0
  None_to after to = (q : ℕ) → after < q → q ≤ to → test q ≡ false

  none_step : (after passed child : ℕ) → None_to after passed → ((q : ℕ) → passed < q → q < child → maps.get m q ≡ None) →
      (q : ℕ) → after < q → q < child → (b : Bool) → nat_le q passed ≡ b → test q ≡ false
  none_step after passed child none gap q up down true le = none q up (grind (arith, nat_tests))
  none_step after passed child none gap q up down false gt = absent q (gap q (grind (arith, nat_tests)) down)

  -- none before the next key
  pub none_before : (after passed child : ℕ) → None_to after passed → ((q : ℕ) → passed < q → q < child → maps.get m q ≡ None) →
      (q : ℕ) → after < q → q < child → test q ≡ false
  none_before after passed child none gap q up down = none_step after passed child none gap q up down (nat_le q passed) refl

  upto_step : (after child : ℕ) → ((q : ℕ) → after < q → q < child → test q ≡ false) → test child ≡ false →
      (q : ℕ) → after < q → q ≤ child → (b : Bool) → nat_lt q child ≡ b → test q ≡ false
  upto_step after child before here q up le true lt = before q up (grind (arith, nat_tests))
  upto_step after child before here q up le false ge =
      subst (λ k. test k ≡ false) (let same : child ≡ q = grind (arith, nat_tests) in same) here

  -- nor at it
  pub none_upto : (after child : ℕ) → ((q : ℕ) → after < q → q < child → test q ≡ false) → test child ≡ false → None_to after child
  none_upto after child before here q up le = upto_step after child before here q up le (nat_lt q child) refl

  after_step : (after passed : ℕ) → None_to after passed → ((q : ℕ) → passed < q → maps.get m q ≡ None) →
      (q : ℕ) → after < q → (b : Bool) → nat_le q passed ≡ b → test q ≡ false
  after_step after passed none gap q up true le = none q up (grind (arith, nat_tests))
  after_step after passed none gap q up false gt = absent q (gap q (grind (arith, nat_tests)))

  -- none where no key is left
  pub none_after : (after passed : ℕ) → None_to after passed → ((q : ℕ) → passed < q → maps.get m q ≡ None) → (q : ℕ) → after < q → test q ≡ false
  none_after after passed none gap q up = after_step after passed none gap q up (nat_le q passed) refl
