-- A number more at a path, and one less.
use Rattle.std.proofs.Common.{◌≡◌, ℕ, Bool, true, false, cond, List, [], ◌∷◌, length, Option, Some, None, refl, ap, sym, subst, ◌∙◌, arith}
use Rattle.std.proofs.lemmas.Bool.Decides.{nat_tests}
use Rattle.std.proofs.lemmas.Cmp.{nat_list_cmp_total}
use Rattle.std.proofs.lemmas.List.Splits.{length-slice_split}
use Rattle.std.specs.Prelude.{◌==◌, IsSome}
use Rattle.std.specs.Option.{option_and_then}
use Rattle.std.specs.Ordering.{eq_by_cmp, is_eq}
use Rattle.std.specs.Cmp.{tied_itself}
use Rattle.std.specs.FinMap as maps
use Rattle.lx_files.specs.Paths.{Path, path_cmp, slash}
use Rattle.lx_files.specs.Folders.{Children, Standings, Numbers, child, names_of, split, turned, at, IsTree, AreThere, named}
use Rattle.lx_files.proofs.Texts.{path_cmp-IsAntisymmetric, equal_is}
use Rattle.lx_files.proofs.Totals.{remove-none}
use Rattle.lx_files.proofs.Naming.{at-next, names_of-same}
use Rattle.lx_files.proofs.Climbing.{came, meant, at_one}
use Rattle.lx_files.proofs.Growing.{got_insert, got_remove}

some_of : {A : Type 0} (o : Option A) (a : A) → o ≡ Some a → IsSome o
some_of {A = A} o a e = subst (λ (x : Option A). IsSome x) (sym e) refl

-- a path has a last name
turned_some : (xs : List (List ℕ)) (a : List ℕ) (acc : List (List ℕ)) → (last : List ℕ) × (above : List (List ℕ)) × (turned xs (a ∷ acc) ≡ last ∷ above)
turned_some [] a acc = (a, acc, refl)
turned_some (x ∷ xs) a acc = turned_some xs x (a ∷ acc)

some_names : (path : Path) → (last : List ℕ) × (above : List (List ℕ)) × (names_of path ≡ last ∷ above)
unfolding names_of
some_names path = go (split path) refl
  where
    go : (parts : List (List ℕ)) → split path ≡ parts → (last : List ℕ) × (above : List (List ℕ)) × (turned parts [] ≡ last ∷ above)
    go [] e = let n = length-slice_split (λ b. b == slash) path in let none = ap length e in absurd (omega (arith, n, none))
    go (x ∷ xs) e = turned_some xs x []

module _ (children : Children) (s : Standings) (full : ℕ) (t : IsTree children s full) (path : Path) where
  -- what a path leads to is there
  pub led_there : (i : ℕ) → at children (names_of path) ≡ Some i → IsSome (maps.get s i)
  led_there i h =
      let n = some_names path in
      let c = came (λ a. child children a n.0) (at children n.1) i (sym (at-next children n.0 n.1) ∙ ap (at children) (sym n.2) ∙ h) in
      some_of (maps.get s i) _ (t.down c.0 n.0 i c.2)

  module _ (numbers : Numbers) (there : AreThere s numbers) where
    pub got : (o : Option ℕ) → at children (names_of path) ≡ o → maps.get (named s numbers) path ≡ option_and_then (maps.get numbers) o
    got o h = meant children s full t numbers there path ∙ ap (option_and_then (maps.get numbers)) h

    pub none_removed : maps.get (named s numbers) path ≡ None → named s numbers ≡ maps.remove (named s numbers) path
    none_removed none = sym (remove-none nat_list_cmp_total path_cmp-IsAntisymmetric (λ x. 0) (named s numbers) path none)

    module _ (i : ℕ) (h : at children (names_of path) ≡ Some i) where
      path_is : (q : Path) (j : ℕ) → at children (names_of q) ≡ Some j → (j == i) ≡ true → eq_by_cmp path_cmp q path ≡ true
      path_is q j led same =
          let number : j ≡ i = grind (arith, nat_tests, same) in
          let names = at_one children s full t (names_of q) (names_of path) i (led ∙ ap (λ (k : ℕ). Some k) number) h in
          ap (eq_by_cmp path_cmp q) (sym (names_of-same q path names)) ∙ ap is_eq (tied_itself nat_list_cmp_total q)

      number_is : (q : Path) (o : Option ℕ) → at children (names_of q) ≡ o → eq_by_cmp path_cmp q path ≡ true → o ≡ Some i
      number_is q o led same = sym led ∙ ap (λ p. at children (names_of p)) (equal_is q path same) ∙ h

      itself : (i == i) ≡ true
      itself = grind (arith, nat_tests)

      pub put_there : (n : ℕ) → AreThere s (maps.insert numbers i n)
      put_there n j some = go (j == i) refl (subst (λ (o : Option ℕ). IsSome o) (got_insert numbers i n j) some)
        where
          go : (b : Bool) → (j == i) ≡ b → IsSome (cond b (Some n) (maps.get numbers j)) → IsSome (maps.get s j)
          go false e h = there j h
          go true e h' = let is : i ≡ j = grind (arith, nat_tests, e) in subst (λ x. IsSome (maps.get s x)) is (led_there i h)

      pub taken_there : AreThere s (maps.remove numbers i)
      taken_there j some = go (j == i) (subst (λ (o : Option ℕ). IsSome o) (got_remove numbers i j) some)
        where
          go : (b : Bool) → IsSome (cond b None (maps.get numbers j)) → IsSome (maps.get s j)
          go false h = there j h
          go true h = absurd (cc h)

      pub put_named : (n : ℕ) → named s (maps.insert numbers i n) ≡ maps.insert (named s numbers) path n
      put_named n = maps.same_map nat_list_cmp_total path_cmp-IsAntisymmetric _ _ (λ q.
          meant children s full t (maps.insert numbers i n) (put_there n) q
          ∙ go q (eq_by_cmp path_cmp q path) refl (at children (names_of q)) refl
          ∙ sym (maps.get-insert nat_list_cmp_total (named s numbers) path n q ∙ ap (cond (eq_by_cmp path_cmp q path) (Some n)) (meant children s full t numbers there q)))
        where
          go : (q : Path) (b : Bool) → eq_by_cmp path_cmp q path ≡ b → (o : Option ℕ) → at children (names_of q) ≡ o
              → option_and_then (maps.get (maps.insert numbers i n)) o ≡ cond b (Some n) (option_and_then (maps.get numbers) o)
          go q true e o led = ap (option_and_then (maps.get (maps.insert numbers i n))) (number_is q o led e) ∙ got_insert numbers i n i ∙ ap (λ b. cond b (Some n) (maps.get numbers i)) itself
          go q false e None led = refl
          go q false e (Some j) led = got_insert numbers i n j ∙ other (j == i) refl
            where
              other : (c : Bool) → (j == i) ≡ c → cond c (Some n) (maps.get numbers j) ≡ maps.get numbers j
              other false nay = refl
              other true yea = let equal = path_is q j led yea in absurd (cc (e, equal))

      pub taken_named : named s (maps.remove numbers i) ≡ maps.remove (named s numbers) path
      taken_named = maps.same_map nat_list_cmp_total path_cmp-IsAntisymmetric _ _ (λ q.
          meant children s full t (maps.remove numbers i) taken_there q
          ∙ go q (eq_by_cmp path_cmp q path) refl (at children (names_of q)) refl
          ∙ sym (maps.get-remove nat_list_cmp_total (named s numbers) path q ∙ ap (cond (eq_by_cmp path_cmp q path) None) (meant children s full t numbers there q)))
        where
          go : (q : Path) (b : Bool) → eq_by_cmp path_cmp q path ≡ b → (o : Option ℕ) → at children (names_of q) ≡ o
              → option_and_then (maps.get (maps.remove numbers i)) o ≡ cond b None (option_and_then (maps.get numbers) o)
          go q true e o led = ap (option_and_then (maps.get (maps.remove numbers i))) (number_is q o led e) ∙ got_remove numbers i i ∙ ap (λ b. cond b None (maps.get numbers i)) itself
          go q false e None led = refl
          go q false e (Some j) led = got_remove numbers i j ∙ other (j == i) refl
            where
              other : (c : Bool) → (j == i) ≡ c → cond c None (maps.get numbers j) ≡ maps.get numbers j
              other false nay = refl
              other true yea = let equal = path_is q j led yea in absurd (cc (e, equal))
