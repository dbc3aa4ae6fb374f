-- One more and one less at a number.
use Rattle.std.proofs.Common.{◌≡◌, ℕ, ◌+◌, ◌-◌, Bool, true, false, cond, Option, Some, refl, ap, ◌∙◌, arith, unwrap_or}
use Rattle.std.specs.Prelude.{◌==◌}
use Rattle.std.proofs.lemmas.Bool.Decides.{nat_tests}
use Rattle.std.specs.Ordering.{nat_cmp, is_eq}
use Rattle.std.specs.Cmp.{nat_cmp_total}
use Rattle.std.specs.FinMap as maps
use Rattle.std.specs.FinMap.{FinMap}
use Rattle.lx_files.specs.Tallies.{one_if}

same_number : (n k : ℕ) → is_eq (nat_cmp n k) ≡ (k == n)
same_number n k = grind (arith, nat_tests)

at_insert : (m : FinMap nat_cmp ℕ) (k next n : ℕ) → unwrap_or (maps.get (maps.insert m k next) n) 0 ≡ cond (k == n) next (unwrap_or (maps.get m n) 0)
at_insert m k next n = ap (λ o. unwrap_or o 0) (maps.get-insert nat_cmp_total m k next n ∙ ap (λ b. cond b (Some next) (maps.get m n)) (same_number n k)) ∙ go (k == n) (maps.get m n)
  where
    go : (b : Bool) (o : Option ℕ) → unwrap_or (cond b (Some next) o) 0 ≡ cond b next (unwrap_or o 0)
    go true o = refl
    go false o = refl

pub count_more : (m : FinMap nat_cmp ℕ) (k next n : ℕ) → next ≡ unwrap_or (maps.get m k) 0 + 1 → unwrap_or (maps.get (maps.insert m k next) n) 0 ≡ one_if (k == n) + unwrap_or (maps.get m n) 0
count_more m k next n h = at_insert m k next n ∙ go (k == n) refl
  where
    go : (b : Bool) → (k == n) ≡ b → cond b next (unwrap_or (maps.get m n) 0) ≡ one_if b + unwrap_or (maps.get m n) 0
    go true e =
        let same : k ≡ n = grind (arith, nat_tests, e) in
        let here = ap (λ q. unwrap_or (maps.get m q) 0) same in
        omega (arith, h, here)
    go false e = omega arith

pub count_less : (m : FinMap nat_cmp ℕ) (k next n : ℕ) → next ≡ unwrap_or (maps.get m k) 0 - 1 → unwrap_or (maps.get (maps.insert m k next) n) 0 ≡ unwrap_or (maps.get m n) 0 - one_if (k == n)
count_less m k next n h = at_insert m k next n ∙ go (k == n) refl
  where
    go : (b : Bool) → (k == n) ≡ b → cond b next (unwrap_or (maps.get m n) 0) ≡ unwrap_or (maps.get m n) 0 - one_if b
    go true e =
        let same : k ≡ n = grind (arith, nat_tests, e) in
        let here = ap (λ q. unwrap_or (maps.get m q) 0) same in
        omega (arith, h, here)
    go false e = omega arith

-- none is counted where nothing stands
pub count_none : (m : FinMap nat_cmp ℕ) (k n : ℕ) → unwrap_or (maps.get m k) 0 ≡ 0 → unwrap_or (maps.get m n) 0 ≡ unwrap_or (maps.get m n) 0 - one_if (k == n)
count_none m k n h = go (k == n) refl
  where
    go : (b : Bool) → (k == n) ≡ b → unwrap_or (maps.get m n) 0 ≡ unwrap_or (maps.get m n) 0 - one_if b
    go true e =
        let same : k ≡ n = grind (arith, nat_tests, e) in
        let here = ap (λ q. unwrap_or (maps.get m q) 0) same in
        omega (arith, h, here)
    go false e = omega arith
