-- What lies under a path.
use Rattle.std.proofs.Common.{◌≡◌, ℕ, ◌||◌, ◌&&◌, Bool, true, false, cond, List, [], ◌∷◌, ◌++◌, length, map, Option, Some, None, refl, ap, sym, subst, ◌∙◌, arith, append_assoc}
use Rattle.std.proofs.lemmas.Bool.Decides.{nat_tests}
use Rattle.std.proofs.lemmas.Cmp.{nat_list_cmp_total}
use Rattle.std.proofs.lemmas.List.Splits.{length-slice_split}
use Rattle.std.specs.Prelude.{◌==◌, nat_eq, IsSome, is_some}
use Rattle.std.specs.Option.{option_and_then}
use Rattle.std.specs.List.{list_any, starts_with}
use Rattle.std.specs.Ordering.{eq_by_cmp, is_eq}
use Rattle.std.specs.Cmp.{tied_itself}
use Rattle.std.specs.FinMap as maps
use Rattle.std.specs.FinMap.Entries.{find}
use Rattle.lx_files.specs.Paths.{Path, path_cmp, slash, has_slash, is_under}
use Rattle.lx_files.specs.Folders.{Children, Standings, Numbers, child, child_of, names_of, split, led, at, IsTree, AreThere, named}
use Rattle.lx_files.proofs.Texts.{equal_is}
use Rattle.lx_files.proofs.Naming.{names_of-append, names_of-next, led-at, led-none, led-step, at-next}
use Rattle.lx_files.proofs.Climbing.{meant}

starts_rest : (q start : List ℕ) → starts_with nat_eq q start ≡ true → (rest : List ℕ) × (q ≡ start ++ rest)
starts_rest q [] h = (q, refl)
starts_rest [] (x ∷ start) h = absurd (cc h)
starts_rest (y ∷ q) (x ∷ start) h = go (nat_eq x y) refl h (starts_rest q start)
  where
    go : (b : Bool) → nat_eq x y ≡ b → (b && starts_with nat_eq q start) ≡ true → (starts_with nat_eq q start ≡ true → (rest : List ℕ) × (q ≡ start ++ rest)) → (rest : List ℕ) × (y ∷ q ≡ x ∷ start ++ rest)
    go false e k later = absurd (cc k)
    go true e k later =
        let is : y ≡ x = grind (arith, nat_tests, e) in
        let r = later k in
        (r.0, ap (λ z. z ∷ q) is ∙ ap (λ l. x ∷ l) r.1)

starts_so : (path name : List ℕ) → is_under path (path ++ slash ∷ name) ≡ true
starts_so [] name = starts_anyhow name
  where
    starts_anyhow : (bs : List ℕ) → starts_with nat_eq bs [] ≡ true
    starts_anyhow [] = refl
    starts_anyhow (b ∷ bs) = refl
starts_so (x ∷ path) name = let here : nat_eq x x ≡ true = grind (arith, nat_tests) in ap (λ t. t && starts_with nat_eq (path ++ slash ∷ name) (path ++ slash ∷ [])) here ∙ starts_so path name

tied : (q : Path) → eq_by_cmp path_cmp q q ≡ true
tied q = ap is_eq (tied_itself nat_list_cmp_total q)

module _ {X : Type 0} (p : Path → Bool) where
  any_false : (es : List (Path × X)) → ((q : Path) → IsSome (find path_cmp q es) → p q ≡ false) → list_any p (map (λ e. e.0) es) ≡ false
  any_false [] h = refl
  any_false (e ∷ es) h =
      let first : p e.0 ≡ false = h e.0 (subst (λ b. IsSome (cond b (Some e.1) (find path_cmp e.0 es))) (sym (tied e.0)) refl) in
      ap (λ b. b || list_any p (map (λ e. e.0) es)) first ∙ any_false es (λ q some. h q (more (eq_by_cmp path_cmp q e.0) (find path_cmp q es) some))
    where
      more : (b : Bool) (o : Option X) → IsSome o → IsSome (cond b (Some e.1) o)
      more true o some = refl
      more false o some = some

  any_true : (es : List (Path × X)) (q : Path) → IsSome (find path_cmp q es) → p q ≡ true → list_any p (map (λ e. e.0) es) ≡ true
  any_true [] q some h = absurd (cc some)
  any_true (e ∷ es) q some h = go (eq_by_cmp path_cmp q e.0) refl some (λ k. any_true es q k h)
    where
      or_true : (b : Bool) → (b || true) ≡ true
      or_true true = refl
      or_true false = refl

      go : (b : Bool) → eq_by_cmp path_cmp q e.0 ≡ b → IsSome (cond b (Some e.1) (find path_cmp q es)) → (IsSome (find path_cmp q es) → list_any p (map (λ e. e.0) es) ≡ true) → (p e.0 || list_any p (map (λ e. e.0) es)) ≡ true
      go true same k later = let here : p e.0 ≡ true = ap p (sym (equal_is q e.0 same)) ∙ h in ap (λ b. b || list_any p (map (λ e. e.0) es)) here
      go false same k later = ap (λ b. p e.0 || b) (later k) ∙ or_true (p e.0)

  pub none_of : (m : maps.FinMap path_cmp X) → ((q : Path) → IsSome (maps.get m q) → p q ≡ false) → list_any p (maps.keys m) ≡ false
  none_of m h = any_false (maps.entries m) (λ q some. h q (subst (λ (o : Option X). IsSome o) (sym (maps.get-entries m q)) some))

  pub one_of : (m : maps.FinMap path_cmp X) (q : Path) → IsSome (maps.get m q) → p q ≡ true → list_any p (maps.keys m) ≡ true
  one_of m q some h = any_true (maps.entries m) q (subst (λ (o : Option X). IsSome o) (maps.get-entries m q) some) h

module _ (children : Children) (s : Standings) (full : ℕ) (t : IsTree children s full) (numbers : Numbers) (there : AreThere s numbers) (path : Path) where
  beyond : (rest : List ℕ) → at children (names_of (path ++ slash ∷ rest)) ≡ led children (at children (names_of path)) (split rest)
  beyond rest = ap (at children) (names_of-append path rest) ∙ sym (led-at children (split rest) (names_of path))

  none_under : ((rest : List ℕ) → at children (names_of (path ++ slash ∷ rest)) ≡ None) → list_any (is_under path) (maps.keys (named s numbers)) ≡ false
  none_under none = none_of (is_under path) (named s numbers) (λ q some. go q (is_under path q) refl some)
    where
      go : (q : Path) (b : Bool) → is_under path q ≡ b → IsSome (maps.get (named s numbers) q) → is_under path q ≡ false
      go q false e some = e
      go q true e some =
          let r = starts_rest q (path ++ slash ∷ []) e in
          let q_is : q ≡ path ++ slash ∷ r.0 = r.1 ∙ append_assoc path (slash ∷ []) r.0 in
          let nothing : maps.get (named s numbers) q ≡ None = meant children s full t numbers there q ∙ ap (λ p. option_and_then (maps.get numbers) (at children (names_of p))) q_is ∙ ap (option_and_then (maps.get numbers)) (none r.0) in
          let nay : is_some (maps.get (named s numbers) q) ≡ false = ap is_some nothing in
          absurd (cc (nay, some))

  pub nowhere : at children (names_of path) ≡ None → list_any (is_under path) (maps.keys (named s numbers)) ≡ false
  nowhere h = none_under (λ rest. beyond rest ∙ ap (λ o. led children o (split rest)) h ∙ led-none children (split rest))

  pub childless : (i : ℕ) → at children (names_of path) ≡ Some i → ((name : List ℕ) → child children i name ≡ None) → list_any (is_under path) (maps.keys (named s numbers)) ≡ false
  childless i h none = none_under (λ rest. beyond rest ∙ ap (λ o. led children o (split rest)) h ∙ go rest (split rest) refl)
    where
      go : (rest : List ℕ) (parts : List (List ℕ)) → split rest ≡ parts → led children (Some i) parts ≡ None
      go rest [] e = let n = length-slice_split (λ b. b == slash) rest in let zero = ap length e in absurd (omega (arith, n, zero))
      go rest (x ∷ xs) e = led-step children (Some i) x xs ∙ ap (λ o. led children o xs) (none x) ∙ led-none children xs

  pub has_child : (i j : ℕ) (name : List ℕ) → at children (names_of path) ≡ Some i → child children i name ≡ Some j → IsSome (maps.get numbers j) → list_any (is_under path) (maps.keys (named s numbers)) ≡ true
  has_child i j name h leads some =
      let bare : has_slash name ≡ false = t.bare j _ (t.down i name j leads) in
      let to : at children (names_of (path ++ slash ∷ name)) ≡ Some j = ap (at children) (names_of-next path name bare) ∙ at-next children name (names_of path) ∙ ap (child_of children name) h ∙ leads in
      let got : maps.get (named s numbers) (path ++ slash ∷ name) ≡ maps.get numbers j = meant children s full t numbers there (path ++ slash ∷ name) ∙ ap (option_and_then (maps.get numbers)) to in
      one_of (is_under path) (named s numbers) (path ++ slash ∷ name) (subst (λ (o : Option ℕ). IsSome o) (sym got) some) (starts_so path name)
