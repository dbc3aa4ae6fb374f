-- A folder that is taken away.
use Rattle.std.proofs.Common.{◌≡◌, ℕ, ◌||◌, ◌&&◌, Bool, true, false, cond, List, [], ◌∷◌, Option, Some, None, refl, ap, sym, subst, ◌∙◌, arith}
use Rattle.std.proofs.lemmas.Bool.Decides.{nat_tests}
use Rattle.std.proofs.lemmas.Cmp.{nat_list_cmp_total}
use Rattle.std.specs.Prelude.{◌==◌, IsSome, is_some}
use Rattle.std.specs.Ordering.{eq_by_cmp, is_eq}
use Rattle.std.specs.Cmp.{tied_itself}
use Rattle.std.specs.FinMap as maps
use Rattle.containers.specs.Vacant.{IsFullBelow}
use Rattle.lx_files.specs.Paths.{path_cmp}
use Rattle.lx_files.specs.Folders.{Children, Standings, Numbers, child, child_of, at, top, above_in, name_in, depth_below, stands, IsTree, AreThere, HasLess, StaysBeside, named}
use Rattle.lx_files.specs.declared.folder.Standing.{Standing}
use Rattle.lx_files.proofs.Naming.{at-next, at-top}
use Rattle.lx_files.proofs.Texts.{equal_is}
use Rattle.lx_files.proofs.Climbing.{same_some}
use Rattle.lx_files.proofs.Growing.{Differs, same_names, got_remove}

none_is_some : {X : Type 0} (o : Option X) (x : X) → o ≡ None → o ≡ Some x → ⊥
none_is_some o x e h = cc (e, h)

both_true : (a b : Bool) → (a && b) ≡ true → (a ≡ true) × (b ≡ true)
both_true true b h = (refl, h)
both_true false b h = absurd (cc h)

module _ (less more : Children) (s : Standings) (full full' : ℕ) (k : ℕ) (x : Standing) (t : IsTree more s full) (is : maps.get s k ≡ Some x)
    (empty : (q : List ℕ) → child more k q ≡ None) (has : HasLess more less x.above x.name) where
  abbrev pub s' : Standings
  s' = maps.remove s k

  here : child more x.above x.name ≡ Some k
  here = t.up k x is

  not_above : (a i : ℕ) (q : List ℕ) → child more a q ≡ Some i → (a == k) ≡ false
  not_above a i q leads = go (a == k) refl
    where
      go : (b : Bool) → (a == k) ≡ b → (a == k) ≡ false
      go false e = e
      go true e = let same : a ≡ k = grind (arith, nat_tests, e) in absurd (none_is_some (child more k q) i (empty q) (ap (λ z. child more z q) (sym same) ∙ leads))

  as_before : (a : ℕ) → (a == k) ≡ false → maps.get s' a ≡ maps.get s a
  as_before a other = got_remove s k a ∙ ap (λ b. cond b None (maps.get s a)) other

  less_is : (a i : ℕ) (q : List ℕ) → child less a q ≡ Some i → (child more a q ≡ Some i) × (((a == x.above) && eq_by_cmp path_cmp q x.name) ≡ false)
  less_is a i q h = go ((a == x.above) && eq_by_cmp path_cmp q x.name) refl (sym (has a q) ∙ h)
    where
      go : (b : Bool) → ((a == x.above) && eq_by_cmp path_cmp q x.name) ≡ b → cond b None (child more a q) ≡ Some i → (child more a q ≡ Some i) × (((a == x.above) && eq_by_cmp path_cmp q x.name) ≡ false)
      go true e h' = absurd (cc h')
      go false e h' = (h', e)

  itself : ((x.above == x.above) && eq_by_cmp path_cmp x.name x.name) ≡ true
  itself =
      let number : (x.above == x.above) ≡ true = grind (arith, nat_tests) in
      ap (λ b. b && eq_by_cmp path_cmp x.name x.name) number ∙ ap is_eq (tied_itself nat_list_cmp_total x.name)

  -- where a name leads to the folder, it is that name
  only : (a : ℕ) (q : List ℕ) → child more a q ≡ Some k → ((a == x.above) && eq_by_cmp path_cmp q x.name) ≡ true
  only a q h =
      let both = sym (t.down a q k h) ∙ is in
      ap (λ z. (z == x.above) && eq_by_cmp path_cmp q x.name) (ap above_in both) ∙ ap (λ z. (x.above == x.above) && eq_by_cmp path_cmp z x.name) (ap name_in both) ∙ itself

  other_than : (a i : ℕ) (q : List ℕ) → child more a q ≡ Some i → ((a == x.above) && eq_by_cmp path_cmp q x.name) ≡ false → (i == k) ≡ false
  other_than a i q h elsewhere = go (i == k) refl
    where
      go : (b : Bool) → (i == k) ≡ b → (i == k) ≡ false
      go false e = e
      go true e =
          let same : i ≡ k = grind (arith, nat_tests, e) in
          let yea = only a q (h ∙ ap (λ (z : ℕ). Some z) same) in
          absurd (cc (elsewhere, yea))

  old : (i : ℕ) (y : Standing) → maps.get s' i ≡ Some y → (maps.get s i ≡ Some y) × ((i == k) ≡ false)
  old i y h = go (i == k) refl (sym (got_remove s k i) ∙ h)
    where
      go : (b : Bool) → (i == k) ≡ b → cond b None (maps.get s i) ≡ Some y → (maps.get s i ≡ Some y) × ((i == k) ≡ false)
      go true e h' = absurd (cc h')
      go false e h' = (h', e)

  leads_still : (a i : ℕ) (q : List ℕ) → child more a q ≡ Some i → (i == k) ≡ false → child less a q ≡ Some i
  leads_still a i q leads other = go ((a == x.above) && eq_by_cmp path_cmp q x.name) refl
    where
      go : (b : Bool) → ((a == x.above) && eq_by_cmp path_cmp q x.name) ≡ b → child less a q ≡ Some i
      go false e = has a q ∙ ap (λ b. cond b None (child more a q)) e ∙ leads
      go true e =
          let two = both_true (a == x.above) (eq_by_cmp path_cmp q x.name) e in
          let number : (a == x.above) ≡ true = two.0 in
          let above : a ≡ x.above = grind (arith, nat_tests, number) in
          let to : Some i ≡ Some k = sym leads ∙ ap (λ z. child more z q) above ∙ ap (child more x.above) (equal_is q x.name two.1) ∙ here in
          let same : i ≡ k = same_some i k to in
          absurd (grind (arith, nat_tests, same, other))

  pub pruned_stays : StaysBeside k more less
  pruned_stays [] i h other = at-top less ∙ sym (at-top more) ∙ h
  pruned_stays (q ∷ names) i h other = at-next less q names ∙ go (pruned_stays names) (at more names) refl (sym (at-next more q names) ∙ h)
    where
      go : ((j : ℕ) → at more names ≡ Some j → (j == k) ≡ false → at less names ≡ Some j) → (o : Option ℕ) → at more names ≡ o → child_of more q o ≡ Some i → child_of less q (at less names) ≡ Some i
      go on None e leads = absurd (cc leads)
      go on (Some a) e leads = ap (child_of less q) (on a e (not_above a i q leads)) ∙ leads_still a i q leads other

  still_up : (i : ℕ) (y : Standing) → maps.get s' i ≡ Some y → child less y.above y.name ≡ Some i
  still_up i y h = let o = old i y h in leads_still y.above i y.name (t.up i y o.0) o.1

  stands_still : (a i : ℕ) (q : List ℕ) → child more a q ≡ Some i → stands s a ≡ true → stands s' a ≡ true
  stands_still a i q leads there = ap (λ (o : Option Standing). (a == top) || is_some o) (as_before a (not_above a i q leads)) ∙ there

  pub pruned : IsFullBelow s' full' → IsTree less s' full'
  pruned filled = record {
    down = λ a q i h. let l = less_is a i q h in
        as_before i (other_than a i q l.0 l.1) ∙ t.down a q i l.0
        ∙ ap (λ o. Some (record { above = a; depth = depth_below o; name = q })) (sym (as_before a (not_above a i q l.0)));
    up = still_up;
    rooted = λ i y h. let o = old i y h in stands_still y.above i y.name (t.up i y o.0) (t.rooted i y o.0);
    bare = λ i y h. t.bare i y (old i y h).0;
    topless = got_remove s k top ∙ nothing (top == k) (maps.get s top) t.topless;
    full = filled;
  }
    where
      nothing : (b : Bool) (o : Option Standing) → o ≡ None → cond b None o ≡ None
      nothing true o e = refl
      nothing false o e = e

  pub differs : Differs less more x.above x.name k
  differs = record {
    more_has = λ a q. go a q ((a == x.above) && eq_by_cmp path_cmp q x.name) refl;
    less_lacks = has x.above x.name ∙ ap (λ b. cond b None (child more x.above x.name)) itself;
    empty = λ q. has k q ∙ nothing ((k == x.above) && eq_by_cmp path_cmp q x.name) (child more k q) (empty q);
    apart = flipped (not_above x.above k x.name here);
  }
    where
      flipped : (x.above == k) ≡ false → (k == x.above) ≡ false
      flipped e = grind (arith, nat_tests, e)

      nothing : (b : Bool) (o : Option ℕ) → o ≡ None → cond b None o ≡ None
      nothing true o e = refl
      nothing false o e = e

      go : (a : ℕ) (q : List ℕ) (b : Bool) → ((a == x.above) && eq_by_cmp path_cmp q x.name) ≡ b → child more a q ≡ cond b (Some k) (child less a q)
      go a q false e = sym (has a q ∙ ap (λ b. cond b None (child more a q)) e)
      go a q true e =
          let two = both_true (a == x.above) (eq_by_cmp path_cmp q x.name) e in
          let number : (a == x.above) ≡ true = two.0 in
          let above : a ≡ x.above = grind (arith, nat_tests, number) in
          ap (λ z. child more z q) above ∙ ap (child more x.above) (equal_is q x.name two.1) ∙ here

  pub pruned_keeps : IsFullBelow s' full' → (numbers : Numbers) → AreThere s numbers → maps.get numbers k ≡ None → AreThere s' numbers × (named s' numbers ≡ named s numbers)
  pruned_keeps filled numbers there none = (there_still, sym (same_names less more x.above x.name k differs s' s full' full numbers (pruned filled) t there_still there none))
    where
      there_still : AreThere s' numbers
      there_still i some = go (i == k) refl
        where
          go : (b : Bool) → (i == k) ≡ b → IsSome (maps.get s' i)
          go false e = subst (λ (o : Option Standing). IsSome o) (sym (as_before i e)) (there i some)
          go true e =
              let same : i ≡ k = grind (arith, nat_tests, e) in
              let nay : is_some (maps.get numbers i) ≡ false = ap is_some (ap (maps.get numbers) same ∙ none) in
              absurd (cc (nay, some))
