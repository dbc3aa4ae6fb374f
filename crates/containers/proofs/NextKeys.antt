-- The least key above a number, of a map kept as the entries of a std map.
use Rattle.std.proofs.Common.{◌≡◌, ℕ, ◌<◌, ◌≤◌, false, List, [], ◌∷◌, Option, Some, None, refl, sym, ap, subst, ◌∙◌, rules, arith}
use Rattle.std.specs.Prelude.{IsSome, IfSome}
use Rattle.std.specs.List.{slice_get}
use Rattle.std.specs.Ordering.{nat_cmp, is_gt}
use Rattle.std.specs.Cmp.{nat_cmp_is, ranked}
use Rattle.std.specs.declared.cmp.Ordering.{Ordering}
use Rattle.std.specs.declared.cmp.Ordering.TheVariants.{Less, Equal, Greater}
use Rattle.std.specs.declared.ops.Bound.TheVariants.{Excluded, Unbounded}
use Rattle.std.specs.BTreeMap.{BTreeMap, get}
use Rattle.std.specs.BTreeMap.Range.{IsRangeOf, IsEntryInRange, IsLeBy}
use Rattle.std.specs.FinMap as maps
use Rattle.containers.specs.Keys.{IsNextKey}
use Rattle.containers.proofs.Maps.{get-entries}

above : (n q : ℕ) → nat_cmp n q ≡ Less → n < q
above n q e = ranked n q Less (sym e)

inside : (n q : ℕ) → n < q → nat_cmp n q ≡ Less
inside n q lt = sym (nat_cmp_is n q Less lt)

at_most : (a q : ℕ) (o : Ordering) → o ≡ nat_cmp a q → is_gt o ≡ false → a ≤ q
at_most a q Less e h = let lt : a < q = ranked a q Less e in omega arith
at_most a q Equal e h = let same : a ≡ q = ranked a q Equal e in omega arith
at_most a q Greater e h = absurd (cc h)

none_unless : {X : Type 0} (o : Option X) → (IsSome o → ⊥) → o ≡ None
none_unless None never = refl
none_unless (Some x) never = absurd (never (search rules))

module _ {X : Type 0} (m : BTreeMap ℕ X) (n : ℕ) (r : List (ℕ × X)) (range : IsRangeOf nat_cmp (Excluded n) Unbounded m r) where
  pub none_above : r ≡ [] → IsNextKey (maps.from_entries {R = nat_cmp} m.entries) n None
  none_above empty q lt = get-entries q m.entries ∙ range.5 empty q (inside n q lt, search rules)

  pub first_above : (key : ℕ) (value : X) (rest : List (ℕ × X)) → r ≡ (key, value) ∷ rest → IsNextKey (maps.from_entries {R = nat_cmp} m.entries) n (Some key)
  first_above key value rest is =
      let first : slice_get r 0 ≡ Some (key, value) = ap (λ (es : List (ℕ × X)). slice_get es 0) is in
      let P : Option (ℕ × X) → Type 0 = λ o. IfSome o (IsEntryInRange nat_cmp (Excluded n) Unbounded m) in
      let here : IsEntryInRange nat_cmp (Excluded n) Unbounded m (key, value) = subst P first range.1 in
      let there : IsSome (maps.get (maps.from_entries {R = nat_cmp} m.entries) key) = let e : maps.get (maps.from_entries {R = nat_cmp} m.entries) key ≡ Some value = get-entries key m.entries ∙ here.1 in rw e (search rules) in (
        above n key here.0.0,
        there,
        λ q lt less. get-entries q m.entries ∙ none_unless (get nat_cmp m q) (λ some.
            let Q : Option (ℕ × X) → Type 0 = λ o. IfSome o (λ e. IsLeBy nat_cmp e.0 q) in
            let le : IsLeBy nat_cmp key q = subst Q first (range.2 q (inside n q lt, search rules) some) in
            let most : key ≤ q = at_most key q (nat_cmp key q) refl le in
            omega (arith, most)),
      )
