-- Pairs of numbers, kept as keys of a map.
use Rattle.std.proofs.Common.{◌≡◌, ℕ, ◌/◌, ◌%◌, ◌^◌, ◌<◌, ◌&&◌, Bool, true, false, cond, Option, Some, None, is_some, IsSome, refl, ap, sym, subst, ◌∙◌, arith}
use Rattle.std.proofs.lemmas.Bool.Decides.{nat_tests}
use Rattle.std.specs.Prelude.{nat_lt, ◌==◌}
use Rattle.std.specs.Ordering.{nat_cmp, eq_by_cmp}
use Rattle.std.specs.Cmp.{nat_cmp_total}
use Rattle.std.specs.FinMap as maps
use Rattle.containers.specs.Keys.{IsNextKey}
use Rattle.lx_proc.specs.Pairs.{PairSet, key, second_in, has, Sets, IsNextThat}

key_differs : (p n a b : ℕ) → n < 2 ^ 32 → b < 2 ^ 32 → (p == a) && (n == b) ≡ false → eq_by_cmp nat_cmp (key p n) (key a b) ≡ false
key_differs p n a b h k e = grind (arith, nat_tests)

key_same : (p n a b : ℕ) → (p == a) && (n == b) ≡ true → eq_by_cmp nat_cmp (key p n) (key a b) ≡ true
key_same p n a b e = grind (arith, nat_tests)

key_at : (p n a b : ℕ) → n < 2 ^ 32 → b < 2 ^ 32 → (e : Bool) → (p == a) && (n == b) ≡ e → eq_by_cmp nat_cmp (key p n) (key a b) ≡ e
key_at p n a b h k true e = key_same p n a b e
key_at p n a b h k false e = key_differs p n a b h k e

-- whether a pair is in a set of which one changes
cond_there : (e there : Bool) (x y : Option (Unit {0})) → is_some x ≡ there → is_some (cond e x y) ≡ cond e there (is_some y)
cond_there true there x y h = h
cond_there false there x y h = refl

module _ (s s' : PairSet) (a b : ℕ) (there : Bool) (o : Option (Unit {0})) (small : b < 2 ^ 32) (is : is_some o ≡ there)
    (get : (q : ℕ) → maps.get s' q ≡ cond (eq_by_cmp nat_cmp q (key a b)) o (maps.get s q)) where
  far : (p n : ℕ) → nat_lt n (2 ^ 32) ≡ false → (p == a) && (n == b) ≡ false
  far p n h = grind (arith, nat_tests)

  at : (p n : ℕ) (within : Bool) → nat_lt n (2 ^ 32) ≡ within → has s' p n ≡ cond ((p == a) && (n == b)) there (has s p n)
  unfolding has
  at p n true h =
      ap (λ w. w && is_some (maps.get s' (key p n))) h
      ∙ ap is_some (get (key p n) ∙ ap (λ e. cond e o (maps.get s (key p n))) (key_at p n a b (grind (arith, nat_tests)) small ((p == a) && (n == b)) refl))
      ∙ cond_there ((p == a) && (n == b)) there o (maps.get s (key p n)) is
      ∙ ap (λ w. cond ((p == a) && (n == b)) there (w && is_some (maps.get s (key p n)))) (sym h)
  at p n false h =
      ap (λ w. w && is_some (maps.get s' (key p n))) h
      ∙ ap (λ w. w && is_some (maps.get s (key p n))) (sym h)
      ∙ ap (λ e. cond e there (has s p n)) (sym (far p n h))

  pub sets_at : Sets a b there s s'
  sets_at p n = at p n (nat_lt n (2 ^ 32)) refl

pub sets_insert : (s : PairSet) (a b : ℕ) (u : Unit {0}) → b < 2 ^ 32 → Sets a b true s (maps.insert s (key a b) u)
sets_insert s a b u small = sets_at s (maps.insert s (key a b) u) a b true (Some u) small refl (maps.get-insert nat_cmp_total s (key a b) u)

pub sets_remove : (s : PairSet) (a b : ℕ) → b < 2 ^ 32 → Sets a b false s (maps.remove s (key a b))
sets_remove s a b small = sets_at s (maps.remove s (key a b)) a b false None small refl (maps.get-remove nat_cmp_total s (key a b))

pub has_empty : (p n : ℕ) → has maps.empty p n ≡ false
unfolding has
has_empty p n = go (nat_lt n (2 ^ 32))
  where
    go : (w : Bool) → w && is_some (maps.get (maps.empty {X = Unit {0}} {R = nat_cmp}) (key p n)) ≡ false
    go true = ap is_some (maps.get-empty nat_cmp (key p n))
    go false = refl

-- The next pair with the same first.

absent : (o : Option (Unit {0})) → o ≡ None → is_some o ≡ false
absent o h = ap is_some h

present : (o : Option (Unit {0})) → IsSome o → is_some o ≡ true
present None h = absurd (cc h)
present (Some u) h = refl

module _ (s : PairSet) (a after : ℕ) where
  none_if : (q : ℕ) (within : Bool) → nat_lt q (2 ^ 32) ≡ within → (q < 2 ^ 32 → maps.get s (key a q) ≡ None) → has s a q ≡ false
  unfolding has
  none_if q true h none = ap (λ w. w && is_some (maps.get s (key a q))) h ∙ absent _ (none (grind (arith, nat_tests)))
  none_if q false h none = ap (λ w. w && is_some (maps.get s (key a q))) h

  none_there : (q : ℕ) → (q < 2 ^ 32 → maps.get s (key a q) ≡ None) → has s a q ≡ false
  none_there q none = none_if q (nat_lt q (2 ^ 32)) refl none

  one_there : (q : ℕ) → nat_lt q (2 ^ 32) ≡ true → IsSome (maps.get s (key a q)) → has s a q ≡ true
  unfolding has
  one_there q h there = ap (λ w. w && is_some (maps.get s (key a q))) h ∙ present _ there

  pub no_second : IsNextKey s (key a after) None → IsNextThat (has s a) after None
  no_second h q up = none_there q (λ within. h (key a q) (omega (arith, up)))

  second_by : (k : ℕ) → IsNextKey s (key a after) (Some k) → (same : Bool) → (k / 2 ^ 32 == a) ≡ same → IsNextThat (has s a) after (cond same (Some (k % 2 ^ 32)) None)
  second_by k h true e =
      let up = h.0 in
      let is : k ≡ key a (k % 2 ^ 32) = grind (arith, nat_tests) in (
        omega (arith, up, is),
        one_there (k % 2 ^ 32) (grind (arith, nat_tests)) (subst (λ j. IsSome (maps.get s j)) is h.1),
        λ q more less. none_there q (λ within. h.2 (key a q) (omega (arith, more)) (omega (arith, less, is))),
      )
  second_by k h false e = λ q more.
      none_there q (λ within. h.2 (key a q) (omega (arith, more)) (let up = h.0 in grind (arith, nat_tests)))

  pub second_of_next : (k : ℕ) → IsNextKey s (key a after) (Some k) → IsNextThat (has s a) after (second_in k a)
  second_of_next k h = second_by k h (k / 2 ^ 32 == a) refl
