-- The children of each process, listed beside a table that changes at one key.
use Rattle.std.proofs.Common.{◌≡◌, ℕ, ◌&&◌, Bool, true, false, cond, Option, Some, None, refl, ap, sym, subst, ◌∙◌, arith}
use Rattle.std.proofs.lemmas.Bool.Decides.{nat_tests}
use Rattle.std.specs.Prelude.{nat_lt, ◌==◌}
use Rattle.std.specs.Ordering.{nat_cmp, eq_by_cmp}
use Rattle.std.specs.Cmp.{nat_cmp_total}
use Rattle.std.specs.FinMap as maps
use Rattle.std.specs.Option.{option_map}
use Rattle.lx_files.proofs.Totals.{remove-none}
use Rattle.lx_proc.specs.State.{Entry, Entries, Life, changed, changed_entry}
use Rattle.lx_proc.specs.Pairs.{PairSet, has, Sets, KeepsBut}
use Rattle.lx_proc.specs.Families.{is_zombie, is_child, Lists, AreFamilies, Listed, KeptBut, IsListed}
use Rattle.lx_proc.specs.declared.families.Families.{Families}

same : (n k : ℕ) → (n == k) ≡ true → n ≡ k
same n k e = grind (arith, nat_tests)

key_is : (n k : ℕ) (e : Bool) → (n == k) ≡ e → eq_by_cmp nat_cmp n k ≡ (n == k)
key_is n k true e = grind (arith, nat_tests)
key_is n k false e = grind (arith, nat_tests)

-- the map has this at a key, and is as it was elsewhere
abbrev At : ℕ → Option Entry → Entries → Entries → Type 0
At k o m m' = (n : ℕ) → maps.get m' n ≡ cond (n == k) o (maps.get m n)

at_insert : (m : Entries) (k : ℕ) (v : Entry) → At k (Some v) m (maps.insert m k v)
at_insert m k v n = maps.get-insert nat_cmp_total m k v n ∙ ap (λ e. cond e (Some v) (maps.get m n)) (key_is n k (n == k) refl)

at_remove : (m : Entries) (k : ℕ) → At k None m (maps.remove m k)
at_remove m k n = maps.get-remove nat_cmp_total m k n ∙ ap (λ e. cond e None (maps.get m n)) (key_is n k (n == k) refl)

-- a process is listed for one parent at most
abbrev Only : Bool → ℕ → Option Entry → Type 0
Only zombies parent o = (p : ℕ) → (p == parent) ≡ false → is_child zombies p o && nat_lt 0 p ≡ false

and_false : (b : Bool) → b && false ≡ false
and_false true = refl
and_false false = refl

other : (p q : ℕ) → (p == q) ≡ false → (q == p) ≡ false
other p q h = grind (arith, nat_tests)

and_true : (b : Bool) → b && true ≡ b
and_true true = refl
and_true false = refl

only_own : (zombies : Bool) (e : Entry) → Only zombies e.parent (Some e)
only_own zombies e p h = rw (other p e.parent h, and_false) refl

only_none : (zombies : Bool) (parent : ℕ) → Only zombies parent None
only_none zombies parent p h = refl

module _ (s s' : PairSet) (zombies : Bool) (m m' : Entries) (parent k : ℕ) (b : Bool) (o : Option Entry) (was : Lists s zombies m) (sets : Sets parent k b s s') (at : At k o m m')
    (is : b ≡ is_child zombies parent o && nat_lt 0 parent) (old : Only zombies parent (maps.get m k)) (new : Only zombies parent o) where
  go : (p n : ℕ) (e e' : Bool) → (p == parent) ≡ e → (n == k) ≡ e' → has s' p n ≡ is_child zombies p (maps.get m' n) && nat_lt 0 p
  go p n e false pe nk =
      sets p n
      ∙ ap (λ x. cond ((p == parent) && x) b (has s p n)) nk
      ∙ ap (λ x. cond x b (has s p n)) (and_false (p == parent))
      ∙ was p n
      ∙ ap (λ x. is_child zombies p x && nat_lt 0 p) (sym (at n ∙ ap (λ x. cond x o (maps.get m n)) nk))
  go p n true true pe nk =
      sets p n
      ∙ ap (λ x. cond (x && (n == k)) b (has s p n)) pe
      ∙ ap (λ x. cond x b (has s p n)) nk
      ∙ is
      ∙ ap (λ q. is_child zombies q o && nat_lt 0 q) (sym (same p parent pe))
      ∙ ap (λ x. is_child zombies p x && nat_lt 0 p) (sym (at n ∙ ap (λ x. cond x o (maps.get m n)) nk))
  go p n false true pe nk =
      sets p n
      ∙ ap (λ x. cond (x && (n == k)) b (has s p n)) pe
      ∙ was p n
      ∙ ap (λ q. is_child zombies p (maps.get m q) && nat_lt 0 p) (same n k nk)
      ∙ old p pe
      ∙ sym (new p pe)
      ∙ ap (λ x. is_child zombies p x && nat_lt 0 p) (sym (at n ∙ ap (λ x. cond x o (maps.get m n)) nk))

  lists_at : Lists s' zombies m'
  lists_at p n = go p n (p == parent) (n == k) refl refl

module _ (s s' : PairSet) (zombies : Bool) (m : Entries) (k : ℕ) where
  -- a process leaves the table
  pub lists_less : (e : Entry) → Some e ≡ maps.get m k → Lists s zombies m → Sets e.parent k false s s' → Lists s' zombies (maps.remove m k)
  lists_less e here was sets =
      lists_at s s' zombies m (maps.remove m k) e.parent k false None was sets (at_remove m k) refl
      (subst (Only zombies e.parent) here (only_own zombies e)) (only_none zombies e.parent)

  -- one comes to it
  pub lists_more : (e : Entry) → maps.get m k ≡ None → Lists s zombies m → Sets e.parent k (is_child zombies e.parent (Some e) && nat_lt 0 e.parent) s s' → Lists s' zombies (maps.insert m k e)
  lists_more e here was sets =
      lists_at s s' zombies m (maps.insert m k e) e.parent k _ (Some e) was sets (at_insert m k e) refl
      (subst (Only zombies e.parent) (sym here) (only_none zombies e.parent)) (only_own zombies e)

  -- one changes
  moved : (f : Entry → Entry) (e : Entry) (b : Bool) → Some e ≡ maps.get m k → Lists s zombies m → Sets e.parent k b s s' → b ≡ is_child zombies e.parent (Some (f e)) && nat_lt 0 e.parent → Only zombies e.parent (Some (f e)) →
      Lists s' zombies (changed m k f)
  moved f e b here was sets is only =
      subst (λ o. Lists s' zombies (changed_entry m k f o)) here
      (lists_at s s' zombies m (maps.insert m k (f e)) e.parent k b (Some (f e)) was sets (at_insert m k (f e)) is
      (subst (Only zombies e.parent) here (only_own zombies e)) only)

over_by : (b e x y z : Bool) → (e ≡ false → y ≡ x) → z ≡ cond e b y → z ≡ cond e b x
over_by b true x y z h e = e
over_by b false x y z h e = e ∙ h refl

-- what changed at one key alone is written over
pub sets_over : (s t u : PairSet) (p n : ℕ) (b : Bool) → KeepsBut p n s t → Sets p n b t u → Sets p n b s u
sets_over s t u p n b keeps sets q k = over_by b ((q == p) && (k == n)) (has s q k) (has t q k) (has u q k) (keeps q k) (sets q k)

at_same : (m : Entries) (k : ℕ) → maps.get m k ≡ None → At k None m m
at_same m k none n = go (n == k) refl
  where
    go : (b : Bool) → (n == k) ≡ b → maps.get m n ≡ cond b None (maps.get m n)
    go true h = ap (maps.get m) (same n k h) ∙ none
    go false h = refl

-- a pair is taken out of a process that isn't there
lists_without : (s s' : PairSet) (zombies : Bool) (m : Entries) (parent k : ℕ) → maps.get m k ≡ None → Lists s zombies m → Sets parent k false s s' → Lists s' zombies m
lists_without s s' zombies m parent k none was sets =
    lists_at s s' zombies m m parent k false None was sets (at_same m k none) refl (subst (Only zombies parent) (sym none) (only_none zombies parent)) (only_none zombies parent)

itself : (n : ℕ) → (n == n) ≡ true
itself n = grind (arith, nat_tests)

life_is : (e : Entry) (life : Life) → is_zombie life && nat_lt 0 e.parent ≡ is_child true e.parent (Some (record e { life = life })) && nat_lt 0 e.parent
life_is e life = ap (λ b. b && nat_lt 0 e.parent) (sym (ap (λ b. is_zombie life && b) (itself e.parent) ∙ and_true (is_zombie life)))

-- a life changes
pub lists_life : (s s' : PairSet) (m : Entries) (k parent : ℕ) (life : Life) → Some parent ≡ option_map (λ e. e.parent) (maps.get m k) → Lists s true m → Sets parent k (is_zombie life && nat_lt 0 parent) s s' →
    Lists s' true (changed m k (λ e. record e { life = life }))
lists_life s s' m k parent life is was sets = go (maps.get m k) refl is
  where
    go : (o : Option Entry) → o ≡ maps.get m k → Some parent ≡ option_map (λ e. e.parent) o → Lists s' true (changed m k (λ e. record e { life = life }))
    go None here is = absurd (cc is)
    go (Some e) here is =
        let own : parent ≡ e.parent = cc is in
        moved s s' true m k (λ e. record e { life = life }) e _ here was (subst (λ p. Sets p k (is_zombie life && nat_lt 0 p) s s') own sets) (life_is e life) (only_own true (record e { life = life }))

-- a process comes to the table, and is listed as its entry says
pub families_more : (f f' : Families) (m : Entries) (k : ℕ) (e : Entry) → maps.get m k ≡ None → AreFamilies f m → IsListed k e f f' → AreFamilies f' (maps.insert m k e)
families_more f f' m k e none was listed = record {
  children = lists_more f.children f'.children false m k e none was.children
      (subst (λ b. Sets e.parent k b f.children f'.children) (ap (λ b. b && nat_lt 0 e.parent) (sym (itself e.parent))) listed.children);
  zombies = lists_more f.zombies f'.zombies true m k e none was.zombies
      (subst (λ b. Sets e.parent k b f.zombies f'.zombies) (life_is e e.life) listed.zombies);
}

-- what was listed of a process that isn't there is taken back
pub families_kept : (f f' f'' : Families) (m : Entries) (k : ℕ) (e : Entry) → maps.get m k ≡ None → AreFamilies f m → KeptBut e.parent k f f' → Listed e.parent k false false f' f'' → AreFamilies f'' m
families_kept f f' f'' m k e none was kept taken = record {
  children = lists_without f.children f''.children false m e.parent k none was.children (sets_over f.children f'.children f''.children e.parent k false kept.children taken.children);
  zombies = lists_without f.zombies f''.zombies true m e.parent k none was.zombies (sets_over f.zombies f'.zombies f''.zombies e.parent k false kept.zombies taken.zombies);
}

-- an orphan is no child
unlisted : (zombies : Bool) (e : Entry) (p : ℕ) → is_child zombies p (Some (record e { parent = 0 })) && nat_lt 0 p ≡ false
unlisted zombies e p = go (nat_lt 0 p) refl
  where
    go : (b : Bool) → nat_lt 0 p ≡ b → is_child zombies p (Some (record e { parent = 0 })) && nat_lt 0 p ≡ false
    go true h =
        let differs : (0 == p) ≡ false = grind (arith, nat_tests) in
        rw (differs, and_false) refl
    go false h = rw (h, and_false) refl

pub lists_orphan : (s s' : PairSet) (zombies : Bool) (m : Entries) (k parent : ℕ) → Some parent ≡ option_map (λ e. e.parent) (maps.get m k) → Lists s zombies m → Sets parent k false s s' →
    Lists s' zombies (changed m k (λ e. record e { parent = 0 }))
lists_orphan s s' zombies m k parent is was sets = go (maps.get m k) refl is
  where
    go : (o : Option Entry) → o ≡ maps.get m k → Some parent ≡ option_map (λ e. e.parent) o → Lists s' zombies (changed m k (λ e. record e { parent = 0 }))
    go None here is = absurd (cc is)
    go (Some e) here is =
        let own : parent ≡ e.parent = cc is in
        moved s s' zombies m k (λ e. record e { parent = 0 }) e false here was (subst (λ p. Sets p k false s s') own sets) (sym (unlisted zombies e e.parent)) (λ p h. unlisted zombies e p)

-- the set stays where nothing changes for it
module _ (s : PairSet) (zombies : Bool) (m : Entries) (k : ℕ) where
  pub lists_none : None ≡ maps.get m k → Lists s zombies m → Lists s zombies (maps.remove m k)
  lists_none none was = subst (Lists s zombies) (sym (remove-none nat_cmp_total maps.nat_cmp-IsAntisymmetric (λ x. 0) m k (sym none))) was

  module _ (f : Entry → Entry) (alike : (p : ℕ) (e : Entry) → is_child zombies p (Some (f e)) ≡ is_child zombies p (Some e)) where
    put_at : (e : Entry) → Some e ≡ maps.get m k → (p n : ℕ) (b : Bool) → (n == k) ≡ b → is_child zombies p (cond b (Some (f e)) (maps.get m n)) ≡ is_child zombies p (maps.get m n)
    put_at e here p n true h = alike p e ∙ ap (is_child zombies p) (here ∙ ap (maps.get m) (sym (same n k h)))
    put_at e here p n false h = refl

    stays : (o : Option Entry) → o ≡ maps.get m k → Lists s zombies m → Lists s zombies (changed_entry m k f o)
    stays None h was = was
    stays (Some e) h was = λ p n. was p n ∙ ap (λ b. b && nat_lt 0 p) (sym (ap (is_child zombies p) (at_insert m k (f e) n) ∙ put_at e h p n (n == k) refl))

    pub lists_alike : Lists s zombies m → Lists s zombies (changed m k f)
    lists_alike was = stays (maps.get m k) refl was

pub lists_empty : (s : PairSet) (zombies : Bool) → ((p n : ℕ) → has s p n ≡ false) → Lists s zombies maps.empty
lists_empty s zombies none p n = none p n ∙ ap (λ o. is_child zombies p o && nat_lt 0 p) (sym (maps.get-empty nat_cmp n))

-- an entry takes the place of one with the same parent
pub lists_kin : (s : PairSet) (m : Entries) (k parent : ℕ) (e : Entry) → parent ≡ e.parent → Some parent ≡ option_map (λ e. e.parent) (maps.get m k) → Lists s false m → Lists s false (changed m k (λ x. e))
lists_kin s m k parent e own is was = go (maps.get m k) refl is
  where
    put : (x : Entry) → x.parent ≡ e.parent → Some x ≡ maps.get m k → (p n : ℕ) (b : Bool) → (n == k) ≡ b → is_child false p (cond b (Some e) (maps.get m n)) ≡ is_child false p (maps.get m n)
    put x alike here p n true h = ap (λ q. q == p) (sym alike) ∙ ap (is_child false p) (here ∙ ap (maps.get m) (sym (same n k h)))
    put x alike here p n false h = refl

    go : (o : Option Entry) → o ≡ maps.get m k → Some parent ≡ option_map (λ e. e.parent) o → Lists s false (changed_entry m k (λ x. e) o)
    go None here is = was
    go (Some x) here is =
        let alike : x.parent ≡ e.parent = cc (is, own) in
        λ p n. was p n ∙ ap (λ b. b && nat_lt 0 p) (sym (ap (is_child false p) (at_insert m k e n) ∙ put x alike here p n (n == k) refl))

pub lists_kin_life : (s s' : PairSet) (m : Entries) (k parent : ℕ) (e : Entry) → parent ≡ e.parent → Some parent ≡ option_map (λ e. e.parent) (maps.get m k) → Lists s true m
    → Sets parent k (is_zombie e.life && nat_lt 0 parent) s s' → Lists s' true (changed m k (λ x. e))
lists_kin_life s s' m k parent e own is was sets = go (maps.get m k) refl is
  where
    go : (o : Option Entry) → o ≡ maps.get m k → Some parent ≡ option_map (λ e. e.parent) o → Lists s' true (changed m k (λ x. e))
    go None here is = absurd (cc is)
    go (Some x) here is =
        let alike : e.parent ≡ x.parent = cc (is, own) in
        moved s s' true m k (λ y. e) x _ here was (subst (λ p. Sets p k (is_zombie e.life && nat_lt 0 p) s s') (own ∙ alike) sets)
        (subst (λ p. is_zombie e.life && nat_lt 0 p ≡ is_child true p (Some e) && nat_lt 0 p) alike (life_is e e.life))
        (subst (λ p. Only true p (Some e)) alike (only_own true e))

-- an entry takes the place of another parent's child
module _ (s s' s'' : PairSet) (zombies : Bool) (m : Entries) (k parent : ℕ) (x e : Entry) (b : Bool) (was : Lists s zombies m) (put : Sets e.parent k b s s') (taken : Sets parent k false s' s'')
    (is : b ≡ is_child zombies e.parent (Some e) && nat_lt 0 e.parent) (differ : (parent == e.parent) ≡ false) (here : Some x ≡ maps.get m k) (own : x.parent ≡ parent) where
  not_both : (p : ℕ) → (p == parent) ≡ true → (p == e.parent) ≡ false
  not_both p h = ap (λ q. q == e.parent) (same p parent h) ∙ differ

  unlisted_there : (p : ℕ) → (p == parent) ≡ false → is_child zombies p (maps.get m k) && nat_lt 0 p ≡ false
  unlisted_there p h = ap (λ o. is_child zombies p o && nat_lt 0 p) (sym here) ∙ only_own zombies x p (ap (λ q. p == q) own ∙ h)

  adopted : (p n : ℕ) (u v w : Bool) → (p == parent) ≡ u → (p == e.parent) ≡ v → (n == k) ≡ w → has s'' p n ≡ is_child zombies p (cond w (Some e) (maps.get m n)) && nat_lt 0 p
  adopted p n u v false pu pv nk =
      taken p n
      ∙ ap (λ y. cond ((p == parent) && y) false (has s' p n)) nk
      ∙ ap (λ y. cond y false (has s' p n)) (and_false (p == parent))
      ∙ put p n
      ∙ ap (λ y. cond ((p == e.parent) && y) b (has s p n)) nk
      ∙ ap (λ y. cond y b (has s p n)) (and_false (p == e.parent))
      ∙ was p n
  adopted p n true v true pu pv nk =
      taken p n
      ∙ ap (λ y. cond (y && (n == k)) false (has s' p n)) pu
      ∙ ap (λ y. cond y false (has s' p n)) nk
      ∙ sym (only_own zombies e p (not_both p pu))
  adopted p n false true true pu pv nk =
      taken p n
      ∙ ap (λ y. cond (y && (n == k)) false (has s' p n)) pu
      ∙ put p n
      ∙ ap (λ y. cond (y && (n == k)) b (has s p n)) pv
      ∙ ap (λ y. cond y b (has s p n)) nk
      ∙ is
      ∙ ap (λ q. is_child zombies q (Some e) && nat_lt 0 q) (sym (same p e.parent pv))
  adopted p n false false true pu pv nk =
      taken p n
      ∙ ap (λ y. cond (y && (n == k)) false (has s' p n)) pu
      ∙ put p n
      ∙ ap (λ y. cond (y && (n == k)) b (has s p n)) pv
      ∙ was p n
      ∙ ap (λ q. is_child zombies p (maps.get m q) && nat_lt 0 p) (same n k nk)
      ∙ unlisted_there p pu
      ∙ sym (only_own zombies e p pv)

  lists_adopted : Lists s'' zombies (maps.insert m k e)
  lists_adopted p n = adopted p n (p == parent) (p == e.parent) (n == k) refl refl refl ∙ ap (λ o. is_child zombies p o && nat_lt 0 p) (sym (at_insert m k e n))

-- what was listed of another parent's child is taken back
spared : (s s' : PairSet) (zombies : Bool) (m : Entries) (k parent next : ℕ) (x : Entry) → Lists s zombies m → Sets next k false s s' → (parent == next) ≡ false → Some x ≡ maps.get m k → x.parent ≡ parent → Lists s' zombies m
spared s s' zombies m k parent next x was sets differ here own p n = go (p == next) (n == k) refl refl
  where
    go : (u v : Bool) → (p == next) ≡ u → (n == k) ≡ v → has s' p n ≡ is_child zombies p (maps.get m n) && nat_lt 0 p
    go u false pu nk = sets p n ∙ ap (λ y. cond ((p == next) && y) false (has s p n)) nk ∙ ap (λ y. cond y false (has s p n)) (and_false (p == next)) ∙ was p n
    go false v pu nk = sets p n ∙ ap (λ y. cond (y && (n == k)) false (has s p n)) pu ∙ was p n
    go true true pu nk =
        let is_next : p ≡ next = same p next pu in
        let apart : (p == x.parent) ≡ false = ap (λ q. p == q) own ∙ ap (λ q. q == parent) is_next ∙ other parent next differ in
        sets p n
        ∙ ap (λ y. cond (y && (n == k)) false (has s p n)) pu
        ∙ ap (λ y. cond y false (has s p n)) nk
        ∙ sym (ap (λ q. is_child zombies p (maps.get m q) && nat_lt 0 p) (same n k nk) ∙ ap (λ o. is_child zombies p o && nat_lt 0 p) (sym here) ∙ only_own zombies x p apart)

pub families_adopted : (f f' f'' : Families) (m : Entries) (k parent : ℕ) (e : Entry) → Some parent ≡ option_map (λ e. e.parent) (maps.get m k) → (parent == e.parent) ≡ false → AreFamilies f m → IsListed k e f f' → Listed parent k false false f' f''
    → AreFamilies f'' (changed m k (λ x. e))
families_adopted f f' f'' m k parent e is differ was put taken = go (maps.get m k) refl is
  where
    go : (o : Option Entry) → o ≡ maps.get m k → Some parent ≡ option_map (λ e. e.parent) o → AreFamilies f'' (changed_entry m k (λ x. e) o)
    go None here is = absurd (cc is)
    go (Some x) here is =
        let own : x.parent ≡ parent = cc is in
        record {
          children = lists_adopted f.children f'.children f''.children false m k parent x e _ was.children put.children taken.children (ap (λ b. b && nat_lt 0 e.parent) (sym (itself e.parent))) differ here own;
          zombies = lists_adopted f.zombies f'.zombies f''.zombies true m k parent x e _ was.zombies put.zombies taken.zombies (life_is e e.life) differ here own;
        }

pub families_spared : (f f' f'' : Families) (m : Entries) (k parent next : ℕ) → Some parent ≡ option_map (λ e. e.parent) (maps.get m k) → (parent == next) ≡ false → AreFamilies f m → KeptBut next k f f' → Listed next k false false f' f'' → AreFamilies f'' m
families_spared f f' f'' m k parent next is differ was kept taken = go (maps.get m k) refl is
  where
    go : (o : Option Entry) → o ≡ maps.get m k → Some parent ≡ option_map (λ e. e.parent) o → AreFamilies f'' m
    go None here is = absurd (cc is)
    go (Some x) here is =
        let own : x.parent ≡ parent = cc is in
        record {
          children = spared f.children f''.children false m k parent next x was.children (sets_over f.children f'.children f''.children next k false kept.children taken.children) differ here own;
          zombies = spared f.zombies f''.zombies true m k parent next x was.zombies (sets_over f.zombies f'.zombies f''.zombies next k false kept.zombies taken.zombies) differ here own;
        }
