-- Numbers below which every number is a key.
use Rattle.std.proofs.Common.{◌≡◌, ℕ, ◌+◌, ◌≤◌, Bool, true, false, cond, Some, None, refl, ap, sym, subst, ◌∙◌, rules, arith}
use Rattle.std.proofs.lemmas.Bool.Decides.{nat_tests}
use Rattle.std.specs.Prelude.{◌==◌, IsSome}
use Rattle.std.specs.Ordering.{nat_cmp, eq_by_cmp}
use Rattle.std.specs.Cmp.{nat_cmp_total}
use Rattle.std.specs.FinMap as maps
use Rattle.std.specs.FinMap.{FinMap}
use Rattle.containers.specs.Vacant.{vacant, IsFullBelow}
use Rattle.containers.proofs.Vacant.{vacant_is_least}
use Rattle.lx_files.proofs.Totals.{remove-insert}

same : (q k : ℕ) → eq_by_cmp nat_cmp q k ≡ (k == q)
same q k = grind (arith, nat_tests)

module _ {X : Type 0} where
  pub full_next : (m : FinMap nat_cmp X) (k : ℕ) (v : X) → IsFullBelow m k → IsFullBelow (maps.insert m k v) (k + 1)
  full_next m k v full q lt = subst IsSome (sym (maps.get-insert nat_cmp_total m k v q)) (go (eq_by_cmp nat_cmp q k) refl)
    where
      go : (b : Bool) → eq_by_cmp nat_cmp q k ≡ b → IsSome (cond b (Some v) (maps.get m q))
      go true h = search rules
      go false h = let other : (k == q) ≡ false = sym (same q k) ∙ h in full q (grind (arith, nat_tests, other, lt))

  pub full_remove : (m : FinMap nat_cmp X) (n j k : ℕ) → IsFullBelow m n → j ≤ n → j ≤ k → IsFullBelow (maps.remove m k) j
  full_remove m n j k full le before q lt = subst IsSome (sym (maps.get-remove nat_cmp_total m k q)) (go (eq_by_cmp nat_cmp q k) refl)
    where
      go : (b : Bool) → eq_by_cmp nat_cmp q k ≡ b → IsSome (cond b None (maps.get m q))
      go true h = let is : (k == q) ≡ true = sym (same q k) ∙ h in absurd (grind (arith, nat_tests, is, lt, before))
      go false h = full q (omega (arith, lt, le))

  -- what was put in at the least vacant number is taken out again
  pub taken_back : (m n r : FinMap nat_cmp X) (k : ℕ) (v : X) → k ≡ vacant m → n ≡ maps.insert m k v → r ≡ maps.remove n k → r ≡ m
  taken_back m n r k v is put taken =
      taken ∙ ap (λ t. maps.remove t k) put
      ∙ remove-insert nat_cmp_total maps.nat_cmp-IsAntisymmetric (λ x. 0) m k v (ap (maps.get m) is ∙ (vacant_is_least m).0)
