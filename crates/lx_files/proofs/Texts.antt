-- Maps from texts kept as the entries of a std map from vectors.
use Rattle.std.proofs.Common.{◌≡◌, ℕ, List, [], ◌∷◌, Bool, true, false, Option, Some, None, cond, map, ◌&&◌, ◌||◌, T, refl, ap, sym, subst, ◌∙◌, arith}
use Rattle.std.specs.Ordering.{eq_by_cmp, is_eq, is_lt}
use Rattle.std.specs.List.{list_any}
use Rattle.std.specs.FinMap.Entries.{below_all, is_sorted}
use Rattle.std.specs.declared.cmp.Ordering.{Ordering}
use Rattle.std.specs.declared.cmp.Ordering.TheVariants.{Less, Equal, Greater}
use Rattle.std.proofs.lemmas.Cmp.{nat_list_cmp_total}
use Rattle.std.specs.Map.{lookup, remove_entry}
use Rattle.std.specs.List.{AllByRecursion}
use Rattle.std.specs.List.Sorted.{IsStrictlySortedBy}
use Rattle.std.specs.BTreeMap.{is_at, insert_entry}
use Rattle.std.specs.Prelude.{length, slice_get}
use Rattle.std.specs.Cmp.{tied_itself}
use Rattle.std.specs.FinMap as maps
use Rattle.lx_files.specs.Paths.{path_cmp}

pub path_cmp-IsAntisymmetric : maps.IsAntisymmetric path_cmp
path_cmp-IsAntisymmetric = maps.slice_cmp-IsAntisymmetric maps.nat_cmp-IsAntisymmetric

pub equal_is : (a b : List ℕ) → eq_by_cmp path_cmp a b ≡ true → a ≡ b
equal_is a b e = go (path_cmp a b) refl e
  where
    go : (o : Ordering) → path_cmp a b ≡ o → is_eq o ≡ true → a ≡ b
    go Less h e = cc
    go Equal h e = path_cmp-IsAntisymmetric a b h
    go Greater h e = cc

both : (a b : Bool) → T a → T b → T (a && b)
both true b h k = k
both false b h k = h

module _ {K X : Type 0} (text : K → List ℕ) where
  abbrev texts : List (K × X) → List (List ℕ × X)
  texts = map (λ e. (text e.0, e.1))

  find-texts : (q : List ℕ) (es : List (K × X)) → maps.find path_cmp q (texts es) ≡ lookup (is_at (λ k. path_cmp q (text k))) es
  find-texts q [] = refl
  find-texts q (e ∷ es) = ap (cond (eq_by_cmp path_cmp q (text e.0)) (Some e.1)) (find-texts q es)

  -- what a map of entries gives
  pub get-texts : (q : List ℕ) (es : List (K × X)) → maps.get (maps.from_entries {R = path_cmp} (texts es)) q ≡ lookup (is_at (λ k. path_cmp q (text k))) es
  get-texts q es = maps.get-from_entries nat_list_cmp_total (texts es) q ∙ find-texts q es

  abbrev put_in : List (K × X) → K → X → List (K × X)
  put_in = insert_entry (λ a b. path_cmp (text a) (text b))

  apart : (q k e : List ℕ) → path_cmp k e ≡ Greater → (a b : Bool) → eq_by_cmp path_cmp q k ≡ a → eq_by_cmp path_cmp q e ≡ b → (v w o : Option X) → cond b w (cond a v o) ≡ cond a v (cond b w o)
  apart q k e g true true ha hb v w o =
      let equal : eq_by_cmp path_cmp k e ≡ true = subst (λ z. eq_by_cmp path_cmp z e ≡ true) (equal_is q k ha) hb in
      let impossible : is_eq Greater ≡ true = ap is_eq (sym g) ∙ equal in
      absurd (cc impossible)
  apart q k e g true false ha hb v w o = refl
  apart q k e g false true ha hb v w o = refl
  apart q k e g false false ha hb v w o = refl

  twice : (b : Bool) (v w o : Option X) → cond b v o ≡ cond b v (cond b w o)
  twice true v w o = refl
  twice false v w o = refl

  find-put_in : (q : List ℕ) (es : List (K × X)) (k : K) (v : X) → maps.find path_cmp q (texts (put_in es k v)) ≡ cond (eq_by_cmp path_cmp q (text k)) (Some v) (maps.find path_cmp q (texts es))
  find-put_in q [] k v = refl
  find-put_in q (e ∷ es) k v = go (path_cmp (text k) (text e.0)) refl (find-put_in q es k v)
    where
      go : (o : Ordering) → path_cmp (text k) (text e.0) ≡ o → maps.find path_cmp q (texts (put_in es k v)) ≡ cond (eq_by_cmp path_cmp q (text k)) (Some v) (maps.find path_cmp q (texts es)) → maps.find path_cmp q (texts (put_in (e ∷ es) k v)) ≡ cond (eq_by_cmp path_cmp q (text k)) (Some v) (maps.find path_cmp q (texts (e ∷ es)))
      go Less h again = rw h refl
      go Equal h again = rw (h, path_cmp-IsAntisymmetric (text k) (text e.0) h) (twice (eq_by_cmp path_cmp q (text e.0)) (Some v) (Some e.1) (maps.find path_cmp q (texts es)))
      go Greater h again = rw (h, again) (apart q (text k) (text e.0) h (eq_by_cmp path_cmp q (text k)) (eq_by_cmp path_cmp q (text e.0)) refl refl (Some v) (Some e.1) (maps.find path_cmp q (texts es)))

  -- one text has a value, and each other what it had
  pub made_by_insert : (es : List (K × X)) (k : K) (v : X) → maps.from_entries {R = path_cmp} (texts (put_in es k v)) ≡ maps.insert (maps.from_entries (texts es)) (text k) v
  made_by_insert es k v = maps.same_map nat_list_cmp_total path_cmp-IsAntisymmetric _ _ (λ q.
      maps.get-from_entries nat_list_cmp_total (texts (put_in es k v)) q ∙ find-put_in q es k v
      ∙ ap (cond (eq_by_cmp path_cmp q (text k)) (Some v)) (sym (maps.get-from_entries nat_list_cmp_total (texts es) q))
      ∙ sym (maps.get-insert nat_list_cmp_total (maps.from_entries (texts es)) (text k) v q))

  absent : (q : List ℕ) (es : List (K × X)) → AllByRecursion (λ y. path_cmp q (text y) ≡ Less) (map (λ e. e.0) es) → maps.find path_cmp q (texts es) ≡ None
  absent q [] h = refl
  absent q (e ∷ es) h = ap (λ o. cond (is_eq o) (Some e.1) (maps.find path_cmp q (texts es))) h.0 ∙ absent q es h.1

  none_or_none : (b : Bool) → maps.find path_cmp [] (texts []) ≡ cond b None (maps.find path_cmp [] (texts []))
  none_or_none true = refl
  none_or_none false = refl

  unlike : (q k e : List ℕ) → eq_by_cmp path_cmp k e ≡ false → (a b : Bool) → eq_by_cmp path_cmp q k ≡ a → eq_by_cmp path_cmp q e ≡ b → (w o : Option X) → cond b w (cond a None o) ≡ cond a None (cond b w o)
  unlike q k e other true true ha hb w o =
      let same : eq_by_cmp path_cmp k e ≡ true = subst (λ z. eq_by_cmp path_cmp z e ≡ true) (equal_is q k ha) hb in
      let impossible : false ≡ true = sym other ∙ same in
      absurd (cc impossible)
  unlike q k e other true false ha hb w o = refl
  unlike q k e other false true ha hb w o = refl
  unlike q k e other false false ha hb w o = refl

  find-removed : (q k : List ℕ) (es : List (K × X)) → IsStrictlySortedBy (λ a b. path_cmp (text a) (text b)) (map (λ e. e.0) es)
      → maps.find path_cmp q (texts (remove_entry (is_at (λ x. path_cmp k (text x))) es)) ≡ cond (eq_by_cmp path_cmp q k) None (maps.find path_cmp q (texts es))
  unfolding IsStrictlySortedBy
  find-removed q k [] h = none_or_none (eq_by_cmp path_cmp q k)
  find-removed q k (e ∷ es) h = go (eq_by_cmp path_cmp k (text e.0)) refl (find-removed q k es h.1)
    where
      gone : (b : Bool) → eq_by_cmp path_cmp q (text e.0) ≡ b → maps.find path_cmp q (texts es) ≡ cond b None (cond b (Some e.1) (maps.find path_cmp q (texts es)))
      gone true is = ap (λ z. maps.find path_cmp z (texts es)) (equal_is q (text e.0) is) ∙ absent (text e.0) es h.0
      gone false is = refl

      go : (b : Bool) → eq_by_cmp path_cmp k (text e.0) ≡ b → maps.find path_cmp q (texts (remove_entry (is_at (λ x. path_cmp k (text x))) es)) ≡ cond (eq_by_cmp path_cmp q k) None (maps.find path_cmp q (texts es))
          → maps.find path_cmp q (texts (cond b es (e ∷ remove_entry (is_at (λ x. path_cmp k (text x))) es))) ≡ cond (eq_by_cmp path_cmp q k) None (cond (eq_by_cmp path_cmp q (text e.0)) (Some e.1) (maps.find path_cmp q (texts es)))
      go true is rest =
          let same = equal_is k (text e.0) is in
          gone (eq_by_cmp path_cmp q (text e.0)) refl ∙ ap (λ z. cond (eq_by_cmp path_cmp q z) None (cond (eq_by_cmp path_cmp q (text e.0)) (Some e.1) (maps.find path_cmp q (texts es)))) (sym same)
      go false is rest =
          ap (cond (eq_by_cmp path_cmp q (text e.0)) (Some e.1)) rest
          ∙ unlike q k (text e.0) is (eq_by_cmp path_cmp q k) (eq_by_cmp path_cmp q (text e.0)) refl refl (Some e.1) (maps.find path_cmp q (texts es))

  pub made_by_remove : (es : List (K × X)) (k : List ℕ) → IsStrictlySortedBy (λ a b. path_cmp (text a) (text b)) (map (λ e. e.0) es)
      → maps.from_entries {R = path_cmp} (texts (remove_entry (is_at (λ x. path_cmp k (text x))) es)) ≡ maps.remove (maps.from_entries (texts es)) k
  made_by_remove es k h = maps.same_map nat_list_cmp_total path_cmp-IsAntisymmetric _ _ (λ q.
      maps.get-from_entries nat_list_cmp_total (texts (remove_entry (is_at (λ x. path_cmp k (text x))) es)) q ∙ find-removed q k es h
      ∙ ap (cond (eq_by_cmp path_cmp q k) None) (sym (maps.get-from_entries nat_list_cmp_total (texts es) q))
      ∙ sym (maps.get-remove nat_list_cmp_total (maps.from_entries (texts es)) k q))

  below : (k : List ℕ) (es : List (K × X)) → AllByRecursion (λ y. path_cmp k (text y) ≡ Less) (map (λ e. e.0) es) → T (below_all path_cmp k (texts es))
  below k [] h = tt
  below k (e ∷ es) h = both _ _ (subst (λ o. T (is_lt o)) (sym h.0) tt) (below k es h.1)

  sorted : (es : List (K × X)) → IsStrictlySortedBy (λ a b. path_cmp (text a) (text b)) (map (λ e. e.0) es) → T (is_sorted path_cmp (texts es))
  unfolding IsStrictlySortedBy
  sorted [] h = tt
  sorted (e ∷ es) h = both _ _ (below (text e.0) es h.0) (sorted es h.1)

  -- entries that rise are those of the map that they make
  pub entries-texts : (es : List (K × X)) → IsStrictlySortedBy (λ a b. path_cmp (text a) (text b)) (map (λ e. e.0) es) → maps.entries (maps.from_entries {R = path_cmp} (texts es)) ≡ texts es
  entries-texts es h =
      let s : T (is_sorted path_cmp (texts es)) = sorted es h in
      ap maps.entries (maps.same_map nat_list_cmp_total path_cmp-IsAntisymmetric (maps.from_entries {R = path_cmp} (texts es)) (maps.from_sorted {R = path_cmp} (texts es)) (λ q. maps.get-from_entries nat_list_cmp_total (texts es) q ∙ sym (maps.get-from_sorted path_cmp (texts es) q s)))
      ∙ maps.entries-from_sorted path_cmp (texts es) s

  any-texts : (p : List ℕ → Bool) (es : List (K × X)) → list_any (λ e. p (text e.0)) es ≡ list_any p (map (λ e. e.0) (texts es))
  any-texts p [] = refl
  any-texts p (e ∷ es) = ap (λ b. p (text e.0) || b) (any-texts p es)

  -- a test of the keys
  pub any_key : (p : List ℕ → Bool) (es : List (K × X)) → IsStrictlySortedBy (λ a b. path_cmp (text a) (text b)) (map (λ e. e.0) es) → list_any (λ e. p (text e.0)) es ≡ list_any p (maps.keys (maps.from_entries {R = path_cmp} (texts es)))
  any_key p es h = any-texts p es ∙ ap (λ l. list_any p (map (λ e. e.0) l)) (sym (entries-texts es h))

  -- the first entry is found by its text
  pub first_found : (es : List (K × X)) (k : K) (v : X) → slice_get es 0 ≡ Some (k, v) → maps.get (maps.from_entries {R = path_cmp} (texts es)) (text k) ≡ Some v
  first_found [] k v h = absurd (cc h)
  first_found (e ∷ es) k v h =
      let key : e.0 ≡ k = cc h in
      let value : e.1 ≡ v = cc h in
      get-texts (text k) (e ∷ es) ∙ ap (λ z. lookup (is_at (λ x. path_cmp (text z) (text x))) (e ∷ es)) (sym key)
      ∙ ap (λ b. cond b (Some e.1) (lookup (is_at (λ x. path_cmp (text e.0) (text x))) es)) (ap is_eq (tied_itself nat_list_cmp_total (text e.0))) ∙ ap (λ (z : X). Some z) value

  -- nothing is found where there is no entry
  pub none_found : (es : List (K × X)) (q : List ℕ) → length es ≡ 0 → maps.get (maps.from_entries {R = path_cmp} (texts es)) q ≡ None
  none_found [] q h = get-texts q []
  none_found (e ∷ es) q h = absurd (omega (arith, h))
