-- What a changed map has.
use Rattle.std.proofs.Common.{◌≡◌, ℕ, ◌+◌, ◌⊎◌, inl, inr, ◌||◌, Bool, true, false, cond, List, [], ◌∷◌, map, Some, None, refl, ap, sym, subst, ◌∙◌, arith}
use Rattle.std.proofs.lemmas.Bool.Decides.{nat_tests}
use Rattle.std.specs.Prelude.{◌==◌, nat_lt, IsSome}
use Rattle.std.specs.declared.cmp.Ordering.{Ordering}
use Rattle.std.specs.Ordering.{nat_cmp, eq_by_cmp, is_eq}
use Rattle.std.specs.Cmp.{IsTotalOrder, tied_itself, nat_cmp_total}
use Rattle.std.specs.FinMap as maps
use Rattle.std.specs.FinMap.{FinMap}
use Rattle.std.specs.FinMap.Entries.{find}
use Rattle.std.specs.List.{list_any}
use Rattle.lx_files.specs.Tallies.{total, one_if, holds, weight}
use Rattle.lx_files.proofs.Totals.{total-remove}

pub some_is : {X : Type 0} (x y : X) → Some x ≡ Some y → x ≡ y
some_is x y e = cc e

pub neither : (x y : Bool) → (x || y) ≡ false → (x ≡ false) × (y ≡ false)
neither true y e = absurd (cc e)
neither false y e = (refl, e)

none_is : {X : Type 0} (x : X) → None ≡ Some x → ⊥
none_is x e = cc e

module _ {K X : Type 0} {R : K → K → Ordering} (o : IsTotalOrder R) (m : FinMap R X) (k : K) where
  pub inserted : (v : X) (q : K) (x : X) → maps.get (maps.insert m k v) q ≡ Some x → (v ≡ x) ⊎ (maps.get m q ≡ Some x)
  inserted v q x h = go (eq_by_cmp R q k) (sym (maps.get-insert o m k v q) ∙ h)
    where
      go : (b : Bool) → cond b (Some v) (maps.get m q) ≡ Some x → (v ≡ x) ⊎ (maps.get m q ≡ Some x)
      go true e = inl (some_is v x e)
      go false e = inr e

  pub still_there : (v : X) (q : K) → IsSome (maps.get m q) → IsSome (maps.get (maps.insert m k v) q)
  still_there v q h = subst (λ x. IsSome x) (sym (maps.get-insert o m k v q)) (go (eq_by_cmp R q k))
    where
      go : (b : Bool) → IsSome (cond b (Some v) (maps.get m q))
      go true = refl
      go false = h

  pub there_now : (v : X) → maps.get (maps.insert m k v) k ≡ Some v
  there_now v = maps.get-insert o m k v k ∙ ap (λ b. cond b (Some v) (maps.get m k)) (ap is_eq (tied_itself o k))

  pub removed : (q : K) (x : X) → maps.get (maps.remove m k) q ≡ Some x → maps.get m q ≡ Some x
  removed q x h = go (eq_by_cmp R q k) (sym (maps.get-remove o m k q) ∙ h)
    where
      go : (b : Bool) → cond b None (maps.get m q) ≡ Some x → maps.get m q ≡ Some x
      go true e = absurd (none_is x e)
      go false e = e

module _ {X : Type 0} (m : FinMap nat_cmp X) (k : ℕ) where
  same : (q : ℕ) → eq_by_cmp nat_cmp q k ≡ (q == k)
  same q = grind (arith, nat_tests)

  pub removed_other : (q : ℕ) → (q == k) ≡ false → maps.get (maps.remove m k) q ≡ maps.get m q
  removed_other q other = maps.get-remove nat_cmp_total m k q ∙ ap (λ b. cond b None (maps.get m q)) (same q ∙ other)

  pub inserted_other : (v : X) (q : ℕ) → (q == k) ≡ false → maps.get (maps.insert m k v) q ≡ maps.get m q
  inserted_other v q other = maps.get-insert nat_cmp_total m k v q ∙ ap (λ b. cond b (Some v) (maps.get m q)) (same q ∙ other)

-- what no value passes isn't passed by one that is there
module _ {K X : Type 0} {R : K → K → Ordering} (o : IsTotalOrder R) (same : maps.IsAntisymmetric R) (p : X → Bool) (m : FinMap R X) where
  pub none_passes : holds p m ≡ false → (k : K) (x : X) → maps.get m k ≡ Some x → p x ≡ false
  none_passes none k x h = go (p x) refl
    where
      f : X → ℕ
      f y = one_if (p y)

      go : (b : Bool) → p x ≡ b → b ≡ false
      go false e = refl
      go true e =
          let sum : total f (maps.remove m k) + weight f (maps.get m k) ≡ total f m = total-remove o same f m k in
          let one : weight f (maps.get m k) ≡ 1 = ap (weight f) h ∙ ap one_if e in
          let zero : nat_lt 0 (total f m) ≡ false = none in
          absurd (grind (arith, nat_tests, sum, one, zero))

-- another entry stays, whatever its order
module _ {K X : Type 0} {R : K → K → Ordering} (o : IsTotalOrder R) (m : FinMap R X) (k q : K) (other : eq_by_cmp R q k ≡ false) where
  pub put_elsewhere : (v : X) → maps.get (maps.insert m k v) q ≡ maps.get m q
  put_elsewhere v = maps.get-insert o m k v q ∙ ap (λ b. cond b (Some v) (maps.get m q)) other

  pub taken_elsewhere : maps.get (maps.remove m k) q ≡ maps.get m q
  taken_elsewhere = maps.get-remove o m k q ∙ ap (λ b. cond b None (maps.get m q)) other

-- what no entry passes, the one at a key doesn't
none_found : {K X : Type 0} (R : K → K → Ordering) (p : X → Bool) (q : K) (x : X) (es : List (K × X)) → list_any p (map (λ e. e.1) es) ≡ false → find R q es ≡ Some x → p x ≡ false
none_found R p q x [] none is = absurd (cc is)
none_found R p q x (e ∷ es) none is = go (is_eq (R q e.0)) is (none_found R p q x es (neither (p e.1) _ none).1)
  where
    go : (b : Bool) → cond b (Some e.1) (find R q es) ≡ Some x → (find R q es ≡ Some x → p x ≡ false) → p x ≡ false
    go true h later = subst (λ y. p y ≡ false) (some_is e.1 x h) (neither (p e.1) _ none).0
    go false h later = later h

pub none_of_values : {K X : Type 0} {R : K → K → Ordering} (p : X → Bool) (m : FinMap R X) (q : K) (x : X) → list_any p (maps.values m) ≡ false → maps.get m q ≡ Some x → p x ≡ false
none_of_values {R = R} p m q x none is = none_found R p q x (maps.entries m) none (sym (maps.get-entries m q) ∙ is)

none_in : {K : Type 0} (R : K → K → Ordering) → ((x y : K) → eq_by_cmp R x y ≡ true → x ≡ y) → (p : K → Bool) (q : K) (ks : List K) → list_any p ks ≡ false → list_any (eq_by_cmp R q) ks ≡ true → p q ≡ false
none_in R exact p q [] none there = absurd (cc there)
none_in R exact p q (k ∷ ks) none there = go (eq_by_cmp R q k) refl there (none_in R exact p q ks (neither (p k) _ none).1)
  where
    go : (b : Bool) → eq_by_cmp R q k ≡ b → (b || list_any (eq_by_cmp R q) ks) ≡ true → (list_any (eq_by_cmp R q) ks ≡ true → p q ≡ false) → p q ≡ false
    go true at h later = subst (λ i. p i ≡ false) (sym (exact q k at)) (neither (p k) _ none).0
    go false at h later = later h

pub none_of_keys : {K X : Type 0} {R : K → K → Ordering} → ((x y : K) → eq_by_cmp R x y ≡ true → x ≡ y) → (p : K → Bool) (m : FinMap R X) (q : K) → list_any p (maps.keys m) ≡ false → IsSome (maps.get m q) → p q ≡ false
none_of_keys {R = R} exact p m q none is = none_in R exact p q (maps.keys m) none (sym (maps.contains_key-keys m q) ∙ is)
