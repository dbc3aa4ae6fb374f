-- Open calls, of which the one that was entered last stands apart.
use Rattle.std.proofs.Common.{◌≡◌, ℕ, Bool, true, false, cond, Option, Some, None, refl, ap, sym, subst, ◌∙◌, arith}
use Rattle.std.proofs.lemmas.Bool.Decides.{nat_tests}
use Rattle.std.specs.Prelude.{◌==◌}
use Rattle.std.specs.Ordering.{nat_cmp, eq_by_cmp}
use Rattle.std.specs.Cmp.{nat_cmp_total}
use Rattle.std.specs.FinMap as maps
use Rattle.std.specs.FinMap.{FinMap}
use Rattle.tr_line.specs.declared.open_calls.OpenCall.{OpenCall}
use Rattle.tr_line.specs.OpenCalls.{with_latest, without}

same : (q k : ℕ) → eq_by_cmp nat_cmp q k ≡ (q == k)
same q k = grind (arith, nat_tests)

turned : (j k : ℕ) (b : Bool) → (j == k) ≡ b → eq_by_cmp nat_cmp k j ≡ b
turned j k true e = grind (arith, nat_tests)
turned j k false e = grind (arith, nat_tests)

equal : (j k : ℕ) → (j == k) ≡ true → j ≡ k
equal j k e = grind (arith, nat_tests)

module _ (m : FinMap nat_cmp ℕ) (o : OpenCall) where
  got : (p : ℕ) (b : Bool) → (o.pid == p) ≡ b
      → maps.get (maps.insert m o.pid o.number) p ≡ cond b (Some o.number) (maps.get m p)
  got p b e =
      maps.get-insert nat_cmp_total m o.pid o.number p
      ∙ ap (λ t. cond t (Some o.number) (maps.get m p)) (turned o.pid p b e)

  -- the call of this process
  pub own_call : (p : ℕ) → o.pid ≡ p → maps.get (maps.insert m o.pid o.number) p ≡ Some o.number
  own_call p e = got p true (grind (arith, nat_tests))

  -- the call of another
  pub other_call : (p : ℕ) → (o.pid ≡ p → ⊥) → maps.get (maps.insert m o.pid o.number) p ≡ maps.get m p
  other_call p e = got p false (grind (arith, nat_tests))

  own_removed : maps.remove m o.pid ≡ maps.remove (maps.insert m o.pid o.number) o.pid
  own_removed = maps.same_map nat_cmp_total maps.nat_cmp-IsAntisymmetric _ _ (λ q.
      maps.get-remove nat_cmp_total m o.pid q
      ∙ flat (eq_by_cmp nat_cmp q o.pid) (Some o.number) (maps.get m q)
      ∙ ap (cond (eq_by_cmp nat_cmp q o.pid) None) (sym (maps.get-insert nat_cmp_total m o.pid o.number q))
      ∙ sym (maps.get-remove nat_cmp_total (maps.insert m o.pid o.number) o.pid q))
    where
      flat : (b : Bool) (x y : Option ℕ) → cond b None y ≡ cond b None (cond b x y)
      flat true x y = refl
      flat false x y = refl

  other_removed : (p : ℕ) → (o.pid == p) ≡ false
      → maps.insert (maps.remove m p) o.pid o.number ≡ maps.remove (maps.insert m o.pid o.number) p
  other_removed p e = maps.same_map nat_cmp_total maps.nat_cmp-IsAntisymmetric _ _ (λ q.
      maps.get-insert nat_cmp_total (maps.remove m p) o.pid o.number q
      ∙ ap (cond (eq_by_cmp nat_cmp q o.pid) (Some o.number)) (maps.get-remove nat_cmp_total m p q)
      ∙ either q (Some o.number) (maps.get m q) (eq_by_cmp nat_cmp q o.pid) (eq_by_cmp nat_cmp q p) refl refl
      ∙ ap (cond (eq_by_cmp nat_cmp q p) None) (sym (maps.get-insert nat_cmp_total m o.pid o.number q))
      ∙ sym (maps.get-remove nat_cmp_total (maps.insert m o.pid o.number) p q))
    where
      either : (q : ℕ) (x y : Option ℕ) (b c : Bool) → eq_by_cmp nat_cmp q o.pid ≡ b → eq_by_cmp nat_cmp q p ≡ c
          → cond b x (cond c None y) ≡ cond c None (cond b x y)
      either q x y true true i j = absurd (both q (sym (same q o.pid) ∙ i) (sym (same q p) ∙ j))
        where
          both : (q : ℕ) → (q == o.pid) ≡ true → (q == p) ≡ true → ⊥
          both q i j = grind (arith, nat_tests)
      either q x y true false i j = refl
      either q x y false true i j = refl
      either q x y false false i j = refl

-- a process without its call
pub removed : (m : FinMap nat_cmp ℕ) (latest : Option OpenCall) (p : ℕ)
    → with_latest (maps.remove m p) (without latest p) ≡ maps.remove (with_latest m latest) p
removed m None p = refl
removed m (Some o) p = go (o.pid == p) refl
  where
    go : (b : Bool) → (o.pid == p) ≡ b
        → with_latest (maps.remove m p) (cond b None (Some o)) ≡ maps.remove (maps.insert m o.pid o.number) p
    go true e =
        subst (λ k. maps.remove m k ≡ maps.remove (maps.insert m o.pid o.number) k) (equal o.pid p e) (own_removed m o)
    go false e = other_removed m o p e
