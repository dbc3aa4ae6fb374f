-- Keys that begin with some bytes stand together, from those bytes on.
use Rattle.std.proofs.Common.{◌≡◌, ℕ, Bool, true, false, cond, ◌&&◌, ◌||◌, List, [], ◌∷◌, Option, Some, None, refl, ap, sym, subst, ◌∙◌, rules, arith}
use Rattle.std.proofs.lemmas.Bool.Decides.{nat_tests}
use Rattle.std.proofs.lemmas.Cmp.{nat_list_cmp_total}
use Rattle.std.specs.Prelude.{nat_eq, IsSome, IfSome}
use Rattle.std.specs.Cmp.{ranked, tied_itself}
use Rattle.std.specs.Ordering.{nat_cmp, ordering_then, is_gt, is_eq}
use Rattle.std.specs.List.{starts_with, list_any, slice_get}
use Rattle.std.specs.declared.cmp.Ordering.{Ordering}
use Rattle.std.specs.declared.cmp.Ordering.TheVariants.{Less, Equal, Greater}
use Rattle.std.specs.declared.ops.Bound.TheVariants.{Included, Unbounded}
use Rattle.std.specs.Map.{lookup}
use Rattle.std.specs.BTreeMap.{BTreeMap, get, is_at}
use Rattle.std.specs.BTreeMap.Range.{IsRangeOf, IsEntryInRange, IsLeBy}
use Rattle.lx_files.specs.Paths.{path_cmp}
use Rattle.lx_files.proofs.Texts.{path_cmp-IsAntisymmetric}

both_true : (a b : Bool) → (a && b) ≡ true → (a ≡ true) × (b ≡ true)
both_true true b h = (refl, h)
both_true false b h = absurd (cc h)

head_equal : (a b : ℕ) → nat_eq a b ≡ true → nat_cmp a b ≡ Equal
head_equal a b h = grind (arith, nat_tests, h)

-- bytes come before what begins with them
pub prefix_first : (p x : List ℕ) → starts_with nat_eq x p ≡ true → is_gt (path_cmp p x) ≡ false
prefix_first [] [] h = refl
prefix_first [] (b ∷ x) h = refl
prefix_first (a ∷ p) [] h = absurd (cc h)
prefix_first (a ∷ p) (b ∷ x) h =
    let s = both_true (nat_eq a b) (starts_with nat_eq x p) h in
    ap (λ o. is_gt (ordering_then o (path_cmp p x))) (head_equal a b s.0) ∙ prefix_first p x s.1

-- what stands between bytes and something that begins with them begins with them too
pub prefix_between : (p x y : List ℕ) → is_gt (path_cmp p x) ≡ false → is_gt (path_cmp x y) ≡ false → starts_with nat_eq y p ≡ true → starts_with nat_eq x p ≡ true
prefix_between [] x y from to h = refl
prefix_between (a ∷ p) [] y from to h = absurd (cc from)
prefix_between (a ∷ p) (b ∷ x) [] from to h = absurd (cc h)
prefix_between (a ∷ p) (b ∷ x) (c ∷ y) from to h = go (nat_cmp a b) refl (nat_cmp b c) refl from to (λ f t. prefix_between p x y f t s.1)
  where
    s : (nat_eq a c ≡ true) × (starts_with nat_eq y p ≡ true)
    s = both_true (nat_eq a c) (starts_with nat_eq y p) h

    same : a ≡ c
    same = let e = s.0 in grind (arith, nat_tests, e)

    go : (o : Ordering) → nat_cmp a b ≡ o → (r : Ordering) → nat_cmp b c ≡ r → is_gt (ordering_then o (path_cmp p x)) ≡ false → is_gt (ordering_then r (path_cmp x y)) ≡ false
        → (is_gt (path_cmp p x) ≡ false → is_gt (path_cmp x y) ≡ false → starts_with nat_eq x p ≡ true) → (nat_eq a b && starts_with nat_eq x p) ≡ true
    go Greater e r k f t again = absurd (cc f)
    go Less e Greater k f t again = absurd (cc t)
    go Less e Less k f t again = let l = ranked a b Less (sym e) in let m = ranked b c Less (sym k) in absurd (omega (arith, l, m, same))
    go Less e Equal k f t again = let l = ranked a b Less (sym e) in let m = ranked b c Equal (sym k) in absurd (omega (arith, l, m, same))
    go Equal e Greater k f t again = absurd (cc t)
    go Equal e Less k f t again = let l = ranked a b Equal (sym e) in let m = ranked b c Less (sym k) in absurd (omega (arith, l, m, same))
    go Equal e Equal k f t again =
        let l : a ≡ b = ranked a b Equal (sym e) in
        let first : nat_eq a b ≡ true = grind (arith, nat_tests, l) in
        ap (λ z. z && starts_with nat_eq x p) first ∙ again f t

or_true : (b : Bool) → (b || true) ≡ true
or_true true = refl
or_true false = refl

false_unless : (b : Bool) → (b ≡ true → ⊥) → b ≡ false
false_unless true never = absurd (never refl)
false_unless false never = refl

later : {X : Type 0} (b : Bool) (v : X) (o : Option X) → IsSome o → IsSome (cond b (Some v) o)
later true v o some = search rules
later false v o some = some

found : {X : Type 0} (b : Bool) (v : X) (o : Option X) → b ≡ true → IsSome (cond b (Some v) o)
found true v o is = search rules
found false v o is = absurd (cc is)

equal : (a b : List ℕ) (o : Ordering) → path_cmp a b ≡ o → is_eq o ≡ true → a ≡ b
equal a b Less e h = absurd (cc h)
equal a b Equal e h = path_cmp-IsAntisymmetric a b e
equal a b Greater e h = absurd (cc h)

abbrev pub begins : List ℕ → List ℕ → Bool
begins start path = starts_with nat_eq path start

module _ {K X : Type 0} (text : K → List ℕ) where
  none_passes : (p : List ℕ → Bool) (es : List (K × X)) → ((q : K) → IsSome (lookup (is_at (λ k. path_cmp (text q) (text k))) es) → p (text q) ≡ false) → list_any (λ e. p (text e.0)) es ≡ false
  none_passes p [] h = refl
  none_passes p (e ∷ es) h =
      let here : IsSome (lookup (is_at (λ k. path_cmp (text e.0) (text k))) (e ∷ es)) = found (is_at (λ k. path_cmp (text e.0) (text k)) e.0) e.1 (lookup (is_at (λ k. path_cmp (text e.0) (text k))) es) (ap is_eq (tied_itself nat_list_cmp_total (text e.0))) in
      ap (λ b. b || list_any (λ e. p (text e.0)) es) (h e.0 here) ∙ none_passes p es (λ q some. h q (later (is_at (λ k. path_cmp (text q) (text k)) e.0) e.1 (lookup (is_at (λ k. path_cmp (text q) (text k))) es) some))

  one_passes : (p : List ℕ → Bool) (q : K) (es : List (K × X)) → IsSome (lookup (is_at (λ k. path_cmp (text q) (text k))) es) → p (text q) ≡ true → list_any (λ e. p (text e.0)) es ≡ true
  one_passes p q [] some h = absurd (search rules)
  one_passes p q (e ∷ es) some h = go (is_at (λ k. path_cmp (text q) (text k)) e.0) refl some (λ there. one_passes p q es there h)
    where
      go : (b : Bool) → is_at (λ k. path_cmp (text q) (text k)) e.0 ≡ b → IsSome (cond b (Some e.1) (lookup (is_at (λ k. path_cmp (text q) (text k))) es)) → (IsSome (lookup (is_at (λ k. path_cmp (text q) (text k))) es) → list_any (λ e. p (text e.0)) es ≡ true)
          → (p (text e.0) || list_any (λ e. p (text e.0)) es) ≡ true
      go true is there again = ap (λ b. b || list_any (λ e. p (text e.0)) es) (ap p (sym (equal (text q) (text e.0) (path_cmp (text q) (text e.0)) refl is)) ∙ h)
      go false is there again = ap (λ b. p (text e.0) || b) (again there) ∙ or_true (p (text e.0))

  nothing : (o : Option X) → o ≡ None → IsSome o → ⊥
  nothing None e some = search rules
  nothing (Some x) e some = cc e

  module _ (m : BTreeMap K X) (start : K) (r : List (K × X)) (range : IsRangeOf (λ a b. path_cmp (text a) (text b)) (Included start) Unbounded m r) where
    pub none_starts : r ≡ [] → list_any (λ e. begins (text start) (text e.0)) m.entries ≡ false
    none_starts empty = none_passes (begins (text start)) m.entries (λ q some. false_unless (begins (text start) (text q)) (λ h.
        nothing (get (λ a b. path_cmp (text a) (text b)) m q) (range.5 empty q (prefix_first (text start) (text q) h, search rules)) some))

    pub first_starts : (key : K) (value : X) (rest : List (K × X)) → r ≡ (key, value) ∷ rest → list_any (λ e. begins (text start) (text e.0)) m.entries ≡ begins (text start) (text key)
    first_starts key value rest is = go (begins (text start) (text key)) refl
      where
        first : slice_get r 0 ≡ Some (key, value)
        first = ap (λ (es : List (K × X)). slice_get es 0) is

        here : IsEntryInRange (λ a b. path_cmp (text a) (text b)) (Included start) Unbounded m (key, value)
        here = subst (λ (o : Option (K × X)). IfSome o (IsEntryInRange (λ a b. path_cmp (text a) (text b)) (Included start) Unbounded m)) first range.1

        there : IsSome (get (λ a b. path_cmp (text a) (text b)) m key)
        there = let e : get (λ a b. path_cmp (text a) (text b)) m key ≡ Some value = here.1 in rw e (search rules)

        go : (b : Bool) → begins (text start) (text key) ≡ b → list_any (λ e. begins (text start) (text e.0)) m.entries ≡ b
        go true h = one_passes (begins (text start)) key m.entries there h
        go false h = none_passes (begins (text start)) m.entries (λ q some. false_unless (begins (text start) (text q)) (λ k.
            let le : is_gt (path_cmp (text key) (text q)) ≡ false = subst (λ (o : Option (K × X)). IfSome o (λ e. IsLeBy (λ a b. path_cmp (text a) (text b)) e.0 q)) first (range.2 q (prefix_first (text start) (text q) k, search rules) some) in
            let yes : begins (text start) (text key) ≡ true = prefix_between (text start) (text key) (text q) here.0.0 le k in
            let impossible : false ≡ true = sym h ∙ yes in cc impossible))
