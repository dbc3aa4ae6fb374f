-- From folders back to their paths.
use Rattle.std.proofs.Common.{◌≡◌, ℕ, zero, suc, Bool, true, false, cond, List, [], ◌∷◌, ◌++◌, map, Option, Some, None, refl, ap, sym, subst, ◌∙◌, arith}
use Rattle.std.proofs.lemmas.Bool.Decides.{nat_tests}
use Rattle.std.proofs.lemmas.Cmp.{nat_list_cmp_total}
use Rattle.std.specs.Prelude.{◌==◌, ◌||◌, IsSome, is_some}
use Rattle.std.specs.Option.{option_and_then}
use Rattle.std.specs.Ordering.{nat_cmp, eq_by_cmp, is_eq}
use Rattle.std.specs.Cmp.{nat_cmp_total, tied_itself}
use Rattle.std.specs.FinMap as maps
use Rattle.std.specs.FinMap.Entries.{find}
use Rattle.lx_files.specs.Paths.{Path, path_cmp, slash, has_slash}
use Rattle.lx_files.specs.Folders.{Children, Standings, Numbers, child, child_of, names_of, at, top, above_in, depth_in, name_in, depth_below, climbed, path_of, named, IsTree, AreThere}
use Rattle.lx_files.specs.declared.folder.Standing.{Standing}
use Rattle.lx_files.proofs.Texts.{equal_is}
use Rattle.lx_files.proofs.Naming.{names_of-next, names_of-one, names_of-same, at-next, at-top}

pub came : {A B : Type 0} (f : A → Option B) (o : Option A) (b : B) → option_and_then f o ≡ Some b → (a : A) × (o ≡ Some a) × (f a ≡ Some b)
came f None b e = absurd (cc e)
came f (Some a) b e = (a, refl, e)

pub same_some : {A : Type 0} (a b : A) → Some a ≡ Some b → a ≡ b
same_some a b e = cc e

none_some : {A : Type 0} (o : Option A) (a : A) → o ≡ None → o ≡ Some a → ⊥
none_some o a e h = cc (e, h)

pub some_is : {A : Type 0} (o : Option A) → is_some o ≡ true → (a : A) × (o ≡ Some a)
some_is None e = absurd (cc e)
some_is (Some a) e = (a, refl)

pub at_path : (children : Children) (standings : Standings) (full : ℕ) → IsTree children standings full → (n i : ℕ) (s : Standing) → maps.get standings i ≡ Some s → s.depth ≡ n → at children (names_of (climbed standings n i)) ≡ Some i
unfolding climbed
at_path children standings full t zero i s is none =
    let named_so : name_in (maps.get standings i) ≡ s.name = ap name_in is in
    let bare : has_slash s.name ≡ false = t.bare i s is in
    let below : s.depth ≡ depth_below (maps.get standings s.above) = ap depth_in (sym is ∙ t.down s.above s.name i (t.up i s is)) in
    let over : s.above ≡ top = uppermost (maps.get standings s.above) refl (sym below ∙ none) in
    ap (λ n. at children (names_of n)) named_so ∙ ap (at children) (names_of-one s.name bare) ∙ at-next children s.name [] ∙ ap (child_of children s.name) (at-top children)
    ∙ ap (λ a. child children a s.name) (sym over) ∙ t.up i s is
  where
    uppermost : (o : Option Standing) → maps.get standings s.above ≡ o → depth_below o ≡ 0 → s.above ≡ top
    uppermost (Some x) e d = absurd (omega (arith, d))
    uppermost None e d =
        let there : ((s.above == top) || is_some (maps.get standings s.above)) ≡ true = t.rooted i s is in
        let not_there : is_some (maps.get standings s.above) ≡ false = ap is_some e in
        grind (arith, nat_tests, there, not_there)
at_path children standings full t (suc n) i s is deep =
    let named_so : name_in (maps.get standings i) ≡ s.name = ap name_in is in
    let above_so : above_in (maps.get standings i) ≡ s.above = ap above_in is in
    let bare : has_slash s.name ≡ false = t.bare i s is in
    let below : s.depth ≡ depth_below (maps.get standings s.above) = ap depth_in (sym is ∙ t.down s.above s.name i (t.up i s is)) in
    let over = deeper (maps.get standings s.above) refl (sym below ∙ deep) in
    ap (λ a. at children (names_of (climbed standings n a ++ slash ∷ name_in (maps.get standings i)))) above_so
    ∙ ap (λ m. at children (names_of (climbed standings n s.above ++ slash ∷ m))) named_so
    ∙ ap (at children) (names_of-next (climbed standings n s.above) s.name bare)
    ∙ at-next children s.name (names_of (climbed standings n s.above))
    ∙ ap (child_of children s.name) (at_path children standings full t n s.above over.0 over.1 over.2)
    ∙ t.up i s is
  where
    deeper : (o : Option Standing) → maps.get standings s.above ≡ o → depth_below o ≡ suc n → (x : Standing) × (maps.get standings s.above ≡ Some x) × (x.depth ≡ n)
    deeper None e d = absurd (cc d)
    deeper (Some x) e d = (x, e, omega (arith, d))

module _ (children : Children) (standings : Standings) (full : ℕ) (t : IsTree children standings full) where
  -- a folder is at one path
  pub at_one : (xs ys : List (List ℕ)) (i : ℕ) → at children xs ≡ Some i → at children ys ≡ Some i → xs ≡ ys
  at_one [] [] i p q = refl
  at_one [] (y ∷ ys) i p q =
      let c = came (λ a. child children a y) (at children ys) i (sym (at-next children y ys) ∙ q) in
      let is : top ≡ i = same_some top i (sym (at-top children) ∙ p) in
      absurd (none_some (maps.get standings i) _ (ap (maps.get standings) (sym is) ∙ t.topless) (t.down c.0 y i c.2))
  at_one (x ∷ xs) [] i p q =
      let c = came (λ a. child children a x) (at children xs) i (sym (at-next children x xs) ∙ p) in
      let is : top ≡ i = same_some top i (sym (at-top children) ∙ q) in
      absurd (none_some (maps.get standings i) _ (ap (maps.get standings) (sym is) ∙ t.topless) (t.down c.0 x i c.2))
  at_one (x ∷ xs) (y ∷ ys) i p q =
      let c = came (λ a. child children a x) (at children xs) i (sym (at-next children x xs) ∙ p) in
      let d = came (λ a. child children a y) (at children ys) i (sym (at-next children y ys) ∙ q) in
      let both = sym (t.down c.0 x i c.2) ∙ t.down d.0 y i d.2 in
      let above : c.0 ≡ d.0 = ap above_in both in
      let name : x ≡ y = ap name_in both in
      let rest = at_one xs ys c.0 c.1 (d.1 ∙ ap (λ (k : ℕ). Some k) (sym above)) in
      cc (name, rest)

  pub at_path_of : (i : ℕ) → IsSome (maps.get standings i) → at children (names_of (path_of standings i)) ≡ Some i
  at_path_of i there =
      let s = some_is (maps.get standings i) there in
      at_path children standings full t (depth_in (maps.get standings i)) i s.0 s.1 (ap depth_in (sym s.1))

  abbrev pathed : List (ℕ × ℕ) → List (Path × ℕ)
  pathed es = map (λ e. (path_of standings e.0, e.1)) es

  tied : (i : ℕ) → eq_by_cmp nat_cmp i i ≡ true
  tied i = ap is_eq (tied_itself nat_cmp_total i)

  same_path : (q : Path) → eq_by_cmp path_cmp q q ≡ true
  same_path q = ap is_eq (tied_itself nat_list_cmp_total q)

  found : (path : Path) (es : List (ℕ × ℕ)) → ((i : ℕ) → IsSome (find nat_cmp i es) → IsSome (maps.get standings i)) → find path_cmp path (pathed es) ≡ option_and_then (λ i. find nat_cmp i es) (at children (names_of path))
  found path [] there = go (at children (names_of path))
    where
      go : (o : Option ℕ) → find path_cmp path (pathed []) ≡ option_and_then (λ i. find nat_cmp i []) o
      go None = refl
      go (Some i) = refl
  found path (e ∷ es) there = go (eq_by_cmp path_cmp path (path_of standings e.0)) refl (at children (names_of path)) refl (found path es (λ i some. there i (more (eq_by_cmp nat_cmp i e.0) (find nat_cmp i es) some)))
    where
      more : (b : Bool) (o : Option ℕ) → IsSome o → IsSome (cond b (Some e.1) o)
      more true o some = refl
      more false o some = some

      here : IsSome (maps.get standings e.0)
      here = there e.0 (subst (λ b. IsSome (cond b (Some e.1) (find nat_cmp e.0 es))) (sym (tied e.0)) refl)

      go : (b : Bool) → eq_by_cmp path_cmp path (path_of standings e.0) ≡ b → (o : Option ℕ) → at children (names_of path) ≡ o
          → find path_cmp path (pathed es) ≡ option_and_then (λ i. find nat_cmp i es) (at children (names_of path))
          → cond b (Some e.1) (find path_cmp path (pathed es)) ≡ option_and_then (λ i. cond (eq_by_cmp nat_cmp i e.0) (Some e.1) (find nat_cmp i es)) o
      go true is o led rest =
          let same : path ≡ path_of standings e.0 = equal_is path (path_of standings e.0) is in
          let to : o ≡ Some e.0 = sym led ∙ ap (λ p. at children (names_of p)) same ∙ at_path_of e.0 here in
          ap (λ b. cond b (Some e.1) (find nat_cmp e.0 es)) (sym (tied e.0)) ∙ ap (option_and_then (λ i. cond (eq_by_cmp nat_cmp i e.0) (Some e.1) (find nat_cmp i es))) (sym to)
      go false is None led rest = rest ∙ ap (option_and_then (λ i. find nat_cmp i es)) led
      go false is (Some i) led rest = other (eq_by_cmp nat_cmp i e.0) refl
        where
          other : (c : Bool) → eq_by_cmp nat_cmp i e.0 ≡ c → find path_cmp path (pathed es) ≡ cond c (Some e.1) (find nat_cmp i es)
          other false nay = rest ∙ ap (option_and_then (λ i. find nat_cmp i es)) led
          other true yea =
              let number : i ≡ e.0 = grind (arith, nat_tests, yea) in
              let names : names_of path ≡ names_of (path_of standings e.0) = at_one _ _ e.0 (led ∙ ap (λ (k : ℕ). Some k) number) (at_path_of e.0 here) in
              let same : path ≡ path_of standings e.0 = names_of-same _ _ names in
              let equal : eq_by_cmp path_cmp path (path_of standings e.0) ≡ true = ap (eq_by_cmp path_cmp path) (sym same) ∙ same_path path in
              absurd (cc (is, equal))

  -- a path has the number of the folder that it leads to
  pub meant : (numbers : Numbers) → AreThere standings numbers → (path : Path) → maps.get (named standings numbers) path ≡ option_and_then (maps.get numbers) (at children (names_of path))
  unfolding named
  meant numbers there path =
      maps.get-from_entries nat_list_cmp_total (pathed (maps.entries numbers)) path
      ∙ found path (maps.entries numbers) (λ i some. there i (subst IsSome (sym (maps.get-entries numbers i)) some))
      ∙ go (at children (names_of path))
    where
      go : (o : Option ℕ) → option_and_then (λ i. find nat_cmp i (maps.entries numbers)) o ≡ option_and_then (maps.get numbers) o
      go None = refl
      go (Some i) = sym (maps.get-entries numbers i)
