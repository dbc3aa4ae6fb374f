-- The entries of a map that is kept as the entries of a std map, in their order.
use Rattle.std.proofs.Common.{◌≡◌, ℕ, ◌+◌, List, [], ◌∷◌, Bool, true, false, cond, ◌&&◌, T, map, refl, ap, sym, subst, ◌∙◌, length, arith}
use Rattle.std.proofs.lemmas.Bool.Decides.{nat_tests}
use Rattle.std.specs.Prelude.{◌==◌}
use Rattle.std.specs.Ordering.{nat_cmp, is_lt}
use Rattle.std.specs.Cmp.{nat_cmp_total}
use Rattle.std.specs.declared.cmp.Ordering.{Ordering}
use Rattle.std.specs.declared.cmp.Ordering.TheVariants.{Less}
use Rattle.std.specs.List.{AllByRecursion}
use Rattle.std.specs.List.Sorted.{IsStrictlySortedBy}
use Rattle.std.specs.FinMap as maps
use Rattle.std.specs.FinMap.Entries.{below_all, is_sorted}

both : (a b : Bool) → T a → T b → T (a && b)
both true b h k = k
both false b h k = h

module _ {X : Type 0} where
  below : (k : ℕ) (es : List (ℕ × X)) → AllByRecursion (λ y. nat_cmp k y ≡ Less) (map (λ e. e.0) es) → T (below_all nat_cmp k es)
  below k [] h = tt
  below k (e ∷ es) h = both _ _ (subst (λ o. T (is_lt o)) (sym h.0) tt) (below k es h.1)

  sorted : (es : List (ℕ × X)) → IsStrictlySortedBy nat_cmp (map (λ e. e.0) es) → T (is_sorted nat_cmp es)
  unfolding IsStrictlySortedBy
  sorted [] h = tt
  sorted (e ∷ es) h = both _ _ (below e.0 es h.0) (sorted es h.1)

  -- a sorted list is the list of what it makes
  pub entries-sorted : (es : List (ℕ × X)) → IsStrictlySortedBy nat_cmp (map (λ e. e.0) es) → maps.entries (maps.from_entries {R = nat_cmp} es) ≡ es
  entries-sorted es h =
      let s : T (is_sorted nat_cmp es) = sorted es h in
      ap maps.entries (maps.same_map nat_cmp_total maps.nat_cmp-IsAntisymmetric (maps.from_entries {R = nat_cmp} es) (maps.from_sorted {R = nat_cmp} es) (λ q. maps.get-from_entries nat_cmp_total es q ∙ sym (maps.get-from_sorted nat_cmp es q s)))
      ∙ maps.entries-from_sorted nat_cmp es s

  pub len-sorted : (es : List (ℕ × X)) → IsStrictlySortedBy nat_cmp (map (λ e. e.0) es) → maps.len (maps.from_entries {R = nat_cmp} es) ≡ length es
  len-sorted es h = maps.len-entries (maps.from_entries {R = nat_cmp} es) ∙ ap length (entries-sorted es h)
