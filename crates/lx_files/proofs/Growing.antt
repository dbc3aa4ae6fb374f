-- A folder more, and one less.
use Rattle.std.proofs.Common.{◌≡◌, ℕ, ◌⊎◌, inl, inr, ⊎_elim, ◌||◌, ◌&&◌, Bool, true, false, cond, List, [], ◌∷◌, Option, Some, None, refl, ap, sym, subst, ◌∙◌, arith}
use Rattle.std.proofs.lemmas.Bool.Decides.{nat_tests}
use Rattle.std.proofs.lemmas.Cmp.{nat_list_cmp_total}
use Rattle.std.specs.Prelude.{◌==◌, IsSome, is_some}
use Rattle.std.specs.Option.{option_and_then}
use Rattle.std.specs.Ordering.{nat_cmp, eq_by_cmp, is_eq}
use Rattle.std.specs.Cmp.{nat_cmp_total, tied_itself}
use Rattle.std.specs.FinMap as maps
use Rattle.std.specs.FinMap.{FinMap}
use Rattle.containers.specs.Vacant.{IsFullBelow}
use Rattle.lx_files.specs.Paths.{path_cmp, has_slash}
use Rattle.lx_files.specs.Folders.{Children, Standings, Numbers, child, child_of, names_of, at, top, depth_below, stands, IsTree, AreThere, named}
use Rattle.lx_files.specs.declared.folder.Standing.{Standing}
use Rattle.lx_files.proofs.Texts.{path_cmp-IsAntisymmetric, equal_is}
use Rattle.lx_files.proofs.Naming.{at-next, at-top}
use Rattle.lx_files.proofs.Climbing.{same_some, some_is, meant}

nat_same : (q k : ℕ) → eq_by_cmp nat_cmp q k ≡ (q == k)
nat_same q k = grind (arith, nat_tests)

pub got_insert : {X : Type 0} (m : FinMap nat_cmp X) (k : ℕ) (v : X) (q : ℕ) → maps.get (maps.insert m k v) q ≡ cond (q == k) (Some v) (maps.get m q)
got_insert m k v q = maps.get-insert nat_cmp_total m k v q ∙ ap (λ b. cond b (Some v) (maps.get m q)) (nat_same q k)

pub got_remove : {X : Type 0} (m : FinMap nat_cmp X) (k q : ℕ) → maps.get (maps.remove m k) q ≡ cond (q == k) None (maps.get m q)
got_remove m k q = maps.get-remove nat_cmp_total m k q ∙ ap (λ b. cond b None (maps.get m q)) (nat_same q k)

none_is_some : {X : Type 0} (o : Option X) (x : X) → o ≡ None → o ≡ Some x → ⊥
none_is_some o x e h = cc (e, h)

both_true : (a b : Bool) → (a && b) ≡ true → (a ≡ true) × (b ≡ true)
both_true true b h = (refl, h)
both_true false b h = absurd (cc h)

-- Two ways to go down that differ in one name, which leads to a folder with nothing in it.
pub record Differs (less more : Children) (folder : ℕ) (name : List ℕ) (k : ℕ) : Type 0 where
  pub more_has : (a : ℕ) (q : List ℕ) → child more a q ≡ cond ((a == folder) && eq_by_cmp path_cmp q name) (Some k) (child less a q)
  pub less_lacks : child less folder name ≡ None
  pub empty : (q : List ℕ) → child less k q ≡ None
  pub apart : (k == folder) ≡ false

module _ (less more : Children) (folder : ℕ) (name : List ℕ) (k : ℕ) (d : Differs less more folder name k) where
  more_empty : (q : List ℕ) → child more k q ≡ None
  more_empty q = d.more_has k q ∙ ap (λ b. cond (b && eq_by_cmp path_cmp q name) (Some k) (child less k q)) d.apart ∙ d.empty q

  pub more_here : child more folder name ≡ Some k
  more_here =
      let itself : eq_by_cmp path_cmp name name ≡ true = ap is_eq (tied_itself nat_list_cmp_total name) in
      let same : (folder == folder) ≡ true = grind (arith, nat_tests) in
      d.more_has folder name ∙ ap (λ b. cond (b && eq_by_cmp path_cmp name name) (Some k) (child less folder name)) same ∙ ap (λ b. cond b (Some k) (child less folder name)) itself

  pub more_or : (a : ℕ) (q : List ℕ) (i : ℕ) → child more a q ≡ Some i → (child less a q ≡ Some i) ⊎ ((a ≡ folder) × (q ≡ name) × (i ≡ k))
  more_or a q i h = go ((a == folder) && eq_by_cmp path_cmp q name) refl (sym (d.more_has a q) ∙ h)
    where
      go : (b : Bool) → ((a == folder) && eq_by_cmp path_cmp q name) ≡ b → cond b (Some k) (child less a q) ≡ Some i → (child less a q ≡ Some i) ⊎ ((a ≡ folder) × (q ≡ name) × (i ≡ k))
      go false e there = inl there
      go true e there =
          let two = both_true (a == folder) (eq_by_cmp path_cmp q name) e in
          let here : (a == folder) ≡ true = two.0 in
          inr (grind (arith, nat_tests, here), equal_is q name two.1, sym (same_some k i there))

  pub less_stays : (a : ℕ) (q : List ℕ) (i : ℕ) → child less a q ≡ Some i → child more a q ≡ Some i
  less_stays a q i h = go ((a == folder) && eq_by_cmp path_cmp q name) refl
    where
      go : (b : Bool) → ((a == folder) && eq_by_cmp path_cmp q name) ≡ b → child more a q ≡ Some i
      go false e = d.more_has a q ∙ ap (λ b. cond b (Some k) (child less a q)) e ∙ h
      go true e =
          let two = both_true (a == folder) (eq_by_cmp path_cmp q name) e in
          let here : (a == folder) ≡ true = two.0 in
          let is : a ≡ folder = grind (arith, nat_tests, here) in
          absurd (none_is_some (child less folder name) i d.less_lacks (ap (λ x. child less x name) (sym is) ∙ ap (child less a) (sym (equal_is q name two.1)) ∙ h))

  -- names lead where they led, or nowhere before and now to the folder
  pub at_more : (names : List (List ℕ)) → (at more names ≡ at less names) ⊎ ((at less names ≡ None) × (at more names ≡ Some k))
  at_more [] = inl (at-top more ∙ sym (at-top less))
  at_more (q ∷ names) = ⊎_elim same new (at_more names)
    where
      next : (o : Option ℕ) → at less names ≡ o → at more names ≡ o → (at more (q ∷ names) ≡ at less (q ∷ names)) ⊎ ((at less (q ∷ names) ≡ None) × (at more (q ∷ names) ≡ Some k))
      next None l m = inl (at-next more q names ∙ ap (child_of more q) m ∙ sym (at-next less q names ∙ ap (child_of less q) l))
      next (Some a) l m = go (child more a q) refl (child less a q) refl
        where
          is_more : at more (q ∷ names) ≡ child more a q
          is_more = at-next more q names ∙ ap (child_of more q) m

          is_less : at less (q ∷ names) ≡ child less a q
          is_less = at-next less q names ∙ ap (child_of less q) l

          go : (u : Option ℕ) → child more a q ≡ u → (v : Option ℕ) → child less a q ≡ v → (at more (q ∷ names) ≡ at less (q ∷ names)) ⊎ ((at less (q ∷ names) ≡ None) × (at more (q ∷ names) ≡ Some k))
          go u p (Some i) e = inl (is_more ∙ less_stays a q i e ∙ sym (is_less ∙ e))
          go None p None e = inl (is_more ∙ p ∙ sym (is_less ∙ e))
          go (Some i) p None e = ⊎_elim
              (λ there. absurd (none_is_some (child less a q) i e there))
              (λ here. inr (is_less ∙ e, is_more ∙ p ∙ ap (λ (x : ℕ). Some x) here.2))
              (more_or a q i p)

      same : at more names ≡ at less names → (at more (q ∷ names) ≡ at less (q ∷ names)) ⊎ ((at less (q ∷ names) ≡ None) × (at more (q ∷ names) ≡ Some k))
      same e = next (at less names) refl e

      new : (at less names ≡ None) × (at more names ≡ Some k) → (at more (q ∷ names) ≡ at less (q ∷ names)) ⊎ ((at less (q ∷ names) ≡ None) × (at more (q ∷ names) ≡ Some k))
      new e = inl (at-next more q names ∙ ap (child_of more q) e.1 ∙ more_empty q ∙ sym (at-next less q names ∙ ap (child_of less q) e.0))

  pub at_stays : (names : List (List ℕ)) (i : ℕ) → at less names ≡ Some i → at more names ≡ Some i
  at_stays names i h = ⊎_elim (λ e. e ∙ h) (λ e. absurd (none_is_some (at less names) i e.0 h)) (at_more names)

  -- numbers that the folder has none of are those of the same paths
  pub same_names : (s s' : Standings) (f f' : ℕ) (numbers : Numbers) → IsTree less s f → IsTree more s' f' → AreThere s numbers → AreThere s' numbers → maps.get numbers k ≡ None → named s' numbers ≡ named s numbers
  same_names s s' f f' numbers t t' there there' none = maps.same_map nat_list_cmp_total path_cmp-IsAntisymmetric _ _ (λ path.
      meant more s' f' t' numbers there' path
      ∙ ⊎_elim (λ e. ap (option_and_then (maps.get numbers)) e) (λ e. ap (option_and_then (maps.get numbers)) e.1 ∙ none ∙ sym (ap (option_and_then (maps.get numbers)) e.0)) (at_more (names_of path))
      ∙ sym (meant less s f t numbers there path))

-- A folder more.
module _ (less more : Children) (s : Standings) (full full' : ℕ) (folder : ℕ) (name : List ℕ) (k : ℕ) (t : IsTree less s full)
    (new : maps.get s k ≡ None) (fresh : (k == top) ≡ false) (lacks : child less folder name ≡ None) (standing : stands s folder ≡ true) (bare : has_slash name ≡ false)
    (has : (a : ℕ) (q : List ℕ) → child more a q ≡ cond ((a == folder) && eq_by_cmp path_cmp q name) (Some k) (child less a q)) where
  abbrev pub it : Standing
  it = record { above = folder; depth = depth_below (maps.get s folder); name = name }

  abbrev pub s' : Standings
  s' = maps.insert s k it

  k_apart : (k == folder) ≡ false
  k_apart =
      let k_none : is_some (maps.get s k) ≡ false = ap is_some new in
      go (k == folder) refl k_none
    where
      go : (b : Bool) → (k == folder) ≡ b → is_some (maps.get s k) ≡ false → b ≡ false
      go false e k_none = refl
      go true e k_none =
          let is : folder ≡ k = grind (arith, nat_tests, e) in
          let there : ((k == top) || is_some (maps.get s k)) ≡ true = subst (λ x. stands s x ≡ true) is standing in
          absurd (grind (arith, fresh, k_none, there))

  no_children : (q : List ℕ) → child less k q ≡ None
  no_children q = go (child less k q) refl
    where
      go : (o : Option ℕ) → child less k q ≡ o → child less k q ≡ None
      go None e = e
      go (Some i) e =
          let k_none : is_some (maps.get s k) ≡ false = ap is_some new in
          let there : ((k == top) || is_some (maps.get s k)) ≡ true = t.rooted i _ (t.down k q i e) in
          absurd (grind (arith, fresh, k_none, there))

  pub differs : Differs less more folder name k
  differs = record { more_has = has; less_lacks = lacks; empty = no_children; apart = k_apart }

  still : (i : ℕ) (x : Standing) → maps.get s i ≡ Some x → maps.get s' i ≡ Some x
  still i x e = got_insert s k it i ∙ go (i == k) refl
    where
      go : (b : Bool) → (i == k) ≡ b → cond b (Some it) (maps.get s i) ≡ Some x
      go false q = e
      go true q = let is : i ≡ k = grind (arith, nat_tests, q) in absurd (none_is_some (maps.get s k) x new (ap (maps.get s) (sym is) ∙ e))

  here_now : maps.get s' k ≡ Some it
  here_now = let same : (k == k) ≡ true = grind (arith, nat_tests) in got_insert s k it k ∙ ap (λ b. cond b (Some it) (maps.get s k)) same

  old_or : (i : ℕ) (x : Standing) → maps.get s' i ≡ Some x → ((maps.get s i ≡ Some x)) ⊎ ((i ≡ k) × (x ≡ it))
  old_or i x e = go (i == k) refl (sym (got_insert s k it i) ∙ e)
    where
      go : (b : Bool) → (i == k) ≡ b → cond b (Some it) (maps.get s i) ≡ Some x → ((maps.get s i ≡ Some x)) ⊎ ((i ≡ k) × (x ≡ it))
      go false q h = inl h
      go true q h = inr (grind (arith, nat_tests, q), sym (same_some it x h))

  -- a folder in which something lies is as deep as before
  as_deep : (a : ℕ) → (a == k) ≡ false → maps.get s' a ≡ maps.get s a
  as_deep a other = got_insert s k it a ∙ ap (λ b. cond b (Some it) (maps.get s a)) other

  not_k : (a : ℕ) → stands s a ≡ true → (a == k) ≡ false
  not_k a there = go (a == k) refl
    where
      go : (b : Bool) → (a == k) ≡ b → (a == k) ≡ false
      go false e = e
      go true e =
          let is : a ≡ k = grind (arith, nat_tests, e) in
          let k_none : is_some (maps.get s k) ≡ false = ap is_some new in
          let again : ((k == top) || is_some (maps.get s k)) ≡ true = subst (λ x. stands s x ≡ true) is there in
          absurd (grind (arith, fresh, k_none, again))

  pub stands_still : (a : ℕ) → stands s a ≡ true → stands s' a ≡ true
  stands_still a there = ap (λ o. (a == top) || is_some o) (as_deep a (not_k a there)) ∙ there

  pub stands_now : stands s' k ≡ true
  stands_now = let some : is_some (maps.get s' k) ≡ true = ap is_some here_now in grind (arith, some)

  pub grown : IsFullBelow s' full' → IsTree more s' full'
  grown filled = record {
    down = λ a q i h. ⊎_elim
        (λ old. still i _ (t.down a q i old) ∙ ap (λ o. Some (record { above = a; depth = depth_below o; name = q })) (sym (as_deep a (not_k a (t.rooted i _ (t.down a q i old))))))
        (λ h. ap (maps.get s') h.2 ∙ here_now ∙ ap (λ o. Some (record { above = folder; depth = depth_below o; name = name })) (sym (as_deep folder (not_k folder standing)))
        ∙ ap (λ x. Some (record { above = x; depth = depth_below (maps.get s' x); name = name })) (sym h.0)
        ∙ ap (λ x. Some (record { above = a; depth = depth_below (maps.get s' a); name = x })) (sym h.1))
        (more_or less more folder name k differs a q i h);
    up = λ i x h. ⊎_elim
        (λ old. less_stays less more folder name k differs x.above x.name i (t.up i x old))
        (λ e. ap (λ y. child more y.above y.name) e.1 ∙ more_here less more folder name k differs ∙ ap (λ (z : ℕ). Some z) (sym e.0))
        (old_or i x h);
    rooted = λ i x h. ⊎_elim
        (λ old. stands_still x.above (t.rooted i x old))
        (λ e. ap (λ y. stands s' y.above) e.1 ∙ stands_still folder standing)
        (old_or i x h);
    bare = λ i x h. ⊎_elim (λ old. t.bare i x old) (λ e. ap (λ y. has_slash y.name) e.1 ∙ bare) (old_or i x h);
    topless = as_deep top (other_top fresh) ∙ t.topless;
    full = filled;
  }
    where
      other_top : (k == top) ≡ false → (top == k) ≡ false
      other_top e = grind (arith, nat_tests, e)

  there_still : (numbers : Numbers) → AreThere s numbers → AreThere s' numbers
  there_still numbers there i some = let x = some_is (maps.get s i) (there i some) in subst (λ (o : Option Standing). IsSome o) (sym (still i x.0 x.1)) refl

  no_number : (numbers : Numbers) → AreThere s numbers → maps.get numbers k ≡ None
  no_number numbers there = go (maps.get numbers k) refl
    where
      go : (o : Option ℕ) → maps.get numbers k ≡ o → o ≡ None
      go None e = refl
      go (Some n) e =
          let some : IsSome (maps.get s k) = there k (subst (λ (o : Option ℕ). IsSome o) (sym e) refl) in
          let x = some_is (maps.get s k) some in
          absurd (none_is_some (maps.get s k) x.0 new x.1)

  pub grown_keeps : IsFullBelow s' full' → (numbers : Numbers) → AreThere s numbers → AreThere s' numbers × (named s' numbers ≡ named s numbers)
  grown_keeps filled numbers there =
      (there_still numbers there, same_names less more folder name k differs s s' full full' numbers t (grown filled) there (there_still numbers there) (no_number numbers there))
