-- Counts by pid and call number.
use Rattle.std.proofs.Common.{◌≡◌, ℕ, ◌+◌, Bool, true, false, cond, ◌&&◌, Option, Some, refl, ◌∙◌, arith, unwrap_or}
use Rattle.std.specs.Prelude.{◌==◌, if◌then◌else◌}
use Rattle.std.specs.declared.cmp.Ordering.{Ordering}
use Rattle.std.specs.declared.cmp.Ordering.TheVariants.{Less, Equal, Greater}
use Rattle.std.specs.Ordering.{nat_cmp, is_eq, ordering_then}
use Rattle.std.proofs.lemmas.Bool.Decides.{nat_tests}
use Rattle.lx_abi.specs.Occurrences.{pair_cmp}

is_eq_then : (x y : Ordering) → is_eq (ordering_then x y) ≡ is_eq x && is_eq y
is_eq_then Less y = refl
is_eq_then Equal y = refl
is_eq_then Greater y = refl

same_number : (a b : ℕ) → is_eq (nat_cmp a b) ≡ (b == a)
same_number a b = grind (arith, nat_tests)

-- two keys are one where pid and number are
pub same_pair : (p n q m : ℕ) → is_eq (pair_cmp (p, n) (q, m)) ≡ (q == p) && (m == n)
same_pair p n q m = is_eq_then (nat_cmp p q) (nat_cmp n m) ∙ rw (same_number p q, same_number n m) refl

-- one more at one pair
pub one_more : (o : ℕ → ℕ → Option ℕ) (p n q m next : ℕ) → next ≡ unwrap_or (o p n) 0 + 1
    → unwrap_or (cond ((q == p) && (m == n)) (Some next) (o q m)) 0 ≡ (if (q == p) && (m == n) then 1 else 0) + unwrap_or (o q m) 0
one_more o p n q m next h = go (q == p) (m == n) refl refl
  where
    go : (a b : Bool) → (q == p) ≡ a → (m == n) ≡ b → unwrap_or (cond (a && b) (Some next) (o q m)) 0 ≡ (if a && b then 1 else 0) + unwrap_or (o q m) 0
    go true true pq nm =
        let same_p : p ≡ q = grind (arith, nat_tests, pq) in
        let same_n : n ≡ m = grind (arith, nat_tests, nm) in
        let here : unwrap_or (o p n) 0 ≡ unwrap_or (o q m) 0 = rw (same_p, same_n) refl in
        omega (arith, h, here)
    go true false pq nm = omega arith
    go false b pq nm = omega arith
