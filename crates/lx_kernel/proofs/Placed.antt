-- What a table has at a key that was put in or taken out, and at the others.
use Rattle.std.proofs.Common.{◌≡◌, ℕ, Bool, true, false, cond, Option, Some, None, refl, ap, sym, ◌∙◌, arith}
use Rattle.std.specs.Prelude.{◌==◌}
use Rattle.std.proofs.lemmas.Bool.Decides.{nat_tests}
use Rattle.std.specs.Ordering.{nat_cmp, eq_by_cmp, is_eq}
use Rattle.std.specs.Cmp.{nat_cmp_total, eq_by_cmp_equiv}
use Rattle.std.specs.declared.cmp.Ordering.{Ordering}
use Rattle.std.specs.declared.cmp.Ordering.TheVariants.{Less, Equal, Greater}
use Rattle.std.specs.FinMap as maps
use Rattle.std.specs.FinMap.{FinMap}

pub equal_is : (o : Ordering) → is_eq o ≡ true → o ≡ Equal
equal_is Less e = absurd (cc e)
equal_is Equal e = refl
equal_is Greater e = absurd (cc e)

module _ {X : Type 0} (m : FinMap nat_cmp X) (p : ℕ) where
  pub get_put : (x : X) → maps.get (maps.insert m p x) p ≡ Some x
  get_put x = maps.get-insert nat_cmp_total m p x p ∙ ap (λ b. cond b (Some x) (maps.get m p)) ((eq_by_cmp_equiv nat_cmp_total).refl p)

  pub get_left : maps.get (maps.remove m p) p ≡ None
  get_left = maps.get-remove nat_cmp_total m p p ∙ ap (λ b. cond b None (maps.get m p)) ((eq_by_cmp_equiv nat_cmp_total).refl p)

  again : (q : ℕ) (x : X) (b : Bool) → eq_by_cmp nat_cmp q p ≡ b → maps.get m p ≡ Some x → cond b (Some x) (maps.get m q) ≡ maps.get m q
  again q x true e there = sym (ap (maps.get m) (maps.nat_cmp-IsAntisymmetric q p (equal_is (nat_cmp q p) e)) ∙ there)
  again q x false e there = refl

  -- what stands there is put in again
  pub put_same : (x : X) → maps.get m p ≡ Some x → maps.insert m p x ≡ m
  put_same x there = maps.same_map nat_cmp_total maps.nat_cmp-IsAntisymmetric _ _ (λ q.
      maps.get-insert nat_cmp_total m p x q ∙ again q x (eq_by_cmp nat_cmp q p) refl there)

  twice : (b : Bool) (x y : X) (o : Option X) → cond b (Some y) (cond b (Some x) o) ≡ cond b (Some y) o
  twice true x y o = refl
  twice false x y o = refl

  -- the later of two stays
  pub put_twice : (x y : X) → maps.insert (maps.insert m p x) p y ≡ maps.insert m p y
  put_twice x y = maps.same_map nat_cmp_total maps.nat_cmp-IsAntisymmetric _ _ (λ q.
      maps.get-insert nat_cmp_total (maps.insert m p x) p y q
      ∙ ap (cond (eq_by_cmp nat_cmp q p) (Some y)) (maps.get-insert nat_cmp_total m p x q)
      ∙ twice (eq_by_cmp nat_cmp q p) x y (maps.get m q)
      ∙ sym (maps.get-insert nat_cmp_total m p y q))

  left_twice : (b : Bool) (x : X) (y : Option X) → cond b None (cond b (Some x) y) ≡ cond b None y
  left_twice true x y = refl
  left_twice false x y = refl

  -- what is put in and taken out again
  pub remove-insert : (x : X) → maps.remove (maps.insert m p x) p ≡ maps.remove m p
  remove-insert x = maps.same_map nat_cmp_total maps.nat_cmp-IsAntisymmetric _ _ (λ q.
      maps.get-remove nat_cmp_total (maps.insert m p x) p q
      ∙ ap (cond (eq_by_cmp nat_cmp q p) None) (maps.get-insert nat_cmp_total m p x q)
      ∙ left_twice (eq_by_cmp nat_cmp q p) x (maps.get m q)
      ∙ sym (maps.get-remove nat_cmp_total m p q))

  left_here : (q : ℕ) (b : Bool) → eq_by_cmp nat_cmp q p ≡ b → maps.get m p ≡ None → cond b None (maps.get m q) ≡ maps.get m q
  left_here q true e none = sym (ap (maps.get m) (maps.nat_cmp-IsAntisymmetric q p (equal_is (nat_cmp q p) e)) ∙ none)
  left_here q false e none = refl

  -- nothing is taken out where nothing is
  pub remove_absent : maps.get m p ≡ None → maps.remove m p ≡ m
  remove_absent none = maps.same_map nat_cmp_total maps.nat_cmp-IsAntisymmetric _ _ (λ q.
      maps.get-remove nat_cmp_total m p q ∙ left_here q (eq_by_cmp nat_cmp q p) refl none)

-- one number is another, or isn't
pub either : (q p : ℕ) (P : Type 0) (b : Bool) → (q == p) ≡ b → (q ≡ p → P) → ((q ≡ p → ⊥) → P) → P
either q p P true e same other = same (grind (arith, nat_tests))
either q p P false e same other = other (λ s. let t : (q == p) ≡ true = grind (arith, nat_tests) in absurd (cc (sym e ∙ t)))

pub apart : (q p : ℕ) (b : Bool) → eq_by_cmp nat_cmp q p ≡ b → (q ≡ p → ⊥) → b ≡ false
apart q p true e ne = absurd (ne (maps.nat_cmp-IsAntisymmetric q p (equal_is (nat_cmp q p) e)))
apart q p false e ne = refl

module _ {X : Type 0} (m : FinMap nat_cmp X) (p q : ℕ) (ne : q ≡ p → ⊥) where
  differs : eq_by_cmp nat_cmp q p ≡ false
  differs = apart q p (eq_by_cmp nat_cmp q p) refl ne

  -- a map at another key than that which is put in, or taken out
  pub other_put : (x : X) → maps.get (maps.insert m p x) q ≡ maps.get m q
  other_put x = maps.get-insert nat_cmp_total m p x q ∙ ap (λ b. cond b (Some x) (maps.get m q)) differs

  pub other_left : maps.get (maps.remove m p) q ≡ maps.get m q
  other_left = maps.get-remove nat_cmp_total m p q ∙ ap (λ b. cond b None (maps.get m q)) differs
