-- Entries of a table that is changed at another key.
use Rattle.std.proofs.Common.{◌≡◌, ℕ, false, cond, Option, Some, None, refl, ap, ◌∙◌, arith}
use Rattle.std.proofs.lemmas.Bool.Decides.{nat_tests}
use Rattle.std.specs.Prelude.{◌==◌}
use Rattle.std.specs.Cmp.{nat_cmp_total}
use Rattle.std.specs.Ordering.{nat_cmp, eq_by_cmp}
use Rattle.std.specs.FinMap as maps
use Rattle.lx_proc.specs.declared.state.Entry.{Entry}
use Rattle.lx_proc.specs.State.{Entries, changed_entry}

unequal : (q k : ℕ) → (q ≡ k → ⊥) → (q == k) ≡ false
unequal q k ne = grind (arith, nat_tests, ne)

apart : (q k : ℕ) → (q == k) ≡ false → eq_by_cmp nat_cmp q k ≡ false
apart q k h = grind (arith, nat_tests)

module _ (m : Entries) (k q : ℕ) (other : (q == k) ≡ false) where
  pub put_other : (e : Entry) → maps.get (maps.insert m k e) q ≡ maps.get m q
  put_other e = maps.get-insert nat_cmp_total m k e q ∙ ap (λ b. cond b (Some e) (maps.get m q)) (apart q k other)

  pub taken_other : maps.get (maps.remove m k) q ≡ maps.get m q
  taken_other = maps.get-remove nat_cmp_total m k q ∙ ap (λ b. cond b None (maps.get m q)) (apart q k other)

  pub changed_other : (f : Entry → Entry) (o : Option Entry) → maps.get (changed_entry m k f o) q ≡ maps.get m q
  changed_other f None = refl
  changed_other f (Some e) = put_other (f e)

pub others_differ : (q k : ℕ) → (q ≡ k → ⊥) → (q == k) ≡ false
others_differ q k ne = unequal q k ne
