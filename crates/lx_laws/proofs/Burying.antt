-- A process that leaves Dying leaves families: its children are nobody's, and a parent can wait for it.
use Rattle.std.proofs.Common.{◌≡◌, ℕ, ◌<◌, ◌⊎◌, inl, inr, ⊎_elim, Bool, true, false, cond, List, [], ◌∷◌, Option, Some, None, refl, ap, sym, subst, ◌∙◌, arith}
use Rattle.std.proofs.lemmas.Bool.Decides.{nat_tests}
use Rattle.std.specs.Prelude.{◌==◌, ◌||◌, not, fold, nat_lt, is_some}
use Rattle.std.specs.List.{filter, list_any}
use Rattle.std.specs.Ordering.{nat_cmp, eq_by_cmp}
use Rattle.std.specs.Cmp.{nat_cmp_total}
use Rattle.std.specs.FinMap as maps
use Rattle.lx_proc.specs.Families.{is_zombie}
use Rattle.lx_proc.specs.State.{Entries, changed, changed_entry}
use Rattle.lx_proc.specs.declared.state.Entry.{Entry}
use Rattle.lx_proc.specs.declared.state.Life.TheVariants.{Zombie}
use Rattle.lx_proc.specs.declared.state.Shared.{Shared}
use Rattle.lx_pcalls.specs.Ends.{buried, buried_entry, orphan, orphaned, released, released_entry, retired_by, told, wants_no_news, with_life}
use Rattle.lx_sound.specs.Parts.{is_alive}
use Rattle.lx_sound.proofs.Maps.{inserted_other, removed_other, there_now}
use Rattle.lx_laws.specs.Families.{has_not_ended, IsParent, AreFamilies}
use Rattle.lx_kernel.proofs.Blocked.{entry_other}
use Rattle.lx_laws.proofs.Kin.{SameKin, IsKin, same_kin, was_there, here_still, changed_kin}

equals : (n k : ℕ) → (n == k) ≡ true → n ≡ k
equals n k h = grind (arith, nat_tests)

-- Children that are let go.

-- what a child of p becomes, a zombie nothing
abbrev left_of : ℕ → Option Entry → Option Entry
left_of p None = None
left_of p (Some e) = cond (e.parent == p) (cond (is_zombie e.life) None (Some (record e { parent = 0 }))) (Some e)

twice : (p : ℕ) (o : Option Entry) → left_of p (left_of p o) ≡ left_of p o
twice p None = refl
twice p (Some e) = go (e.parent == p) refl (is_zombie e.life) refl
  where
    go : (b : Bool) → (e.parent == p) ≡ b → (z : Bool) → is_zombie e.life ≡ z →
        left_of p (cond b (cond z None (Some (record e { parent = 0 }))) (Some e)) ≡ cond b (cond z None (Some (record e { parent = 0 }))) (Some e)
    go true is true zombie = refl
    go true is false other = again (0 == p)
      where
        again : (c : Bool) → cond c (cond (is_zombie e.life) None (Some (record e { parent = 0 }))) (Some (record e { parent = 0 })) ≡ Some (record e { parent = 0 })
        again true = ap (λ z. cond z None (Some (record e { parent = 0 }))) other
        again false = refl
    go false is z zombie = ap (λ b. cond b (cond (is_zombie e.life) None (Some (record e { parent = 0 }))) (Some e)) is

itself : (n : ℕ) → (n == n) ≡ true
itself n = grind (arith, nat_tests)

-- one is let go, and each other stays
released_at : (p : ℕ) (m : Entries) (c q : ℕ) → maps.get (released p m c) q ≡ cond (q == c) (left_of p (maps.get m q)) (maps.get m q)
unfolding released
released_at p m c q = go (maps.get m c) refl
  where
    here : (o : Option Entry) → maps.get m c ≡ o → (b : Bool) → (q == c) ≡ b → cond b o (maps.get m q) ≡ maps.get m q
    here o there true is = sym there ∙ ap (maps.get m) (sym (equals q c is))
    here o there false other = refl

    put : (x : Option Entry) (n : Entries) → ((b : Bool) → (q == c) ≡ b → maps.get n q ≡ cond b x (maps.get m q)) → (o : Option Entry) → maps.get m c ≡ o → x ≡ left_of p o → maps.get n q ≡ cond (q == c) (left_of p (maps.get m q)) (maps.get m q)
    put x n is o there same = is (q == c) refl ∙ at (q == c) refl
      where
        at : (b : Bool) → (q == c) ≡ b → cond b x (maps.get m q) ≡ cond b (left_of p (maps.get m q)) (maps.get m q)
        at true e = same ∙ ap (left_of p) (sym there ∙ ap (maps.get m) (sym (equals q c e)))
        at false e = refl

    inserts : (x : Entry) (b : Bool) → (q == c) ≡ b → maps.get (maps.insert m c x) q ≡ cond b (Some x) (maps.get m q)
    inserts x true is = ap (maps.get (maps.insert m c x)) (equals q c is) ∙ there_now nat_cmp_total m c x
    inserts x false other = inserted_other m c x q other

    removes : (b : Bool) → (q == c) ≡ b → maps.get (maps.remove m c) q ≡ cond b None (maps.get m q)
    removes true is = ap (maps.get (maps.remove m c)) (equals q c is) ∙ maps.get-remove nat_cmp_total m c c ∙ grind (arith, nat_tests)
    removes false other = removed_other m c q other

    stays : (o : Option Entry) → maps.get m c ≡ o → (b : Bool) → (q == c) ≡ b → maps.get m q ≡ cond b o (maps.get m q)
    stays o there b is = sym (here o there b is)

    one : (e : Entry) → maps.get m c ≡ Some e → (b : Bool) → (e.parent == p) ≡ b → (z : Bool) → is_zombie e.life ≡ z → maps.get (cond b (orphan m c e z) m) q ≡ cond (q == c) (left_of p (maps.get m q)) (maps.get m q)
    one e there true is true zombie = put None (maps.remove m c) removes (Some e) there (sym (ap (λ b. cond b (cond (is_zombie e.life) None (Some (record e { parent = 0 }))) (Some e)) is ∙ ap (λ z. cond z None (Some (record e { parent = 0 }))) zombie))
    one e there true is false other = put (Some (record e { parent = 0 })) (maps.insert m c (record e { parent = 0 })) (inserts (record e { parent = 0 })) (Some e) there (sym (ap (λ b. cond b (cond (is_zombie e.life) None (Some (record e { parent = 0 }))) (Some e)) is ∙ ap (λ z. cond z None (Some (record e { parent = 0 }))) other))
    one e there false is z zombie = put (Some e) m (stays (Some e) there) (Some e) there (sym (ap (λ b. cond b (cond (is_zombie e.life) None (Some (record e { parent = 0 }))) (Some e)) is))

    go : (o : Option Entry) → maps.get m c ≡ o → maps.get (released_entry m p c o) q ≡ cond (q == c) (left_of p (maps.get m q)) (maps.get m q)
    go None there = put None m (stays None there) None there refl
    go (Some e) there = one e there (e.parent == p) refl (is_zombie e.life) refl

-- each of a list is
all_released : (p : ℕ) (m : Entries) (cs : List ℕ) (q : ℕ) → maps.get (fold (released p) m cs) q ≡ cond (list_any (λ c. q == c) cs) (left_of p (maps.get m q)) (maps.get m q)
all_released p m [] q = refl
all_released p m (c ∷ cs) q = all_released p (released p m c) cs q ∙ go (q == c) (list_any (λ c. q == c) cs) (released_at p m c q)
  where
    go : (b any : Bool) → maps.get (released p m c) q ≡ cond b (left_of p (maps.get m q)) (maps.get m q) →
        cond any (left_of p (maps.get (released p m c) q)) (maps.get (released p m c) q) ≡ cond (b || any) (left_of p (maps.get m q)) (maps.get m q)
    go true true is = ap (left_of p) is ∙ twice p (maps.get m q)
    go true false is = is
    go false true is = ap (left_of p) is
    go false false is = is

-- who is there above 0 is among them
listed : (q : ℕ) (ks : List ℕ) → nat_lt 0 q ≡ true → list_any (eq_by_cmp nat_cmp q) ks ≡ true → list_any (λ c. q == c) (filter (nat_lt 0) ks) ≡ true
listed q [] above there = there
listed q (k ∷ ks) above there = go (nat_lt 0 k) refl (eq_by_cmp nat_cmp q k) refl there (listed q ks above)
  where
    alike : eq_by_cmp nat_cmp q k ≡ (q == k)
    alike = grind (arith, nat_tests)

    go : (up : Bool) → nat_lt 0 k ≡ up → (b : Bool) → eq_by_cmp nat_cmp q k ≡ b → (b || list_any (eq_by_cmp nat_cmp q) ks) ≡ true →
        (list_any (eq_by_cmp nat_cmp q) ks ≡ true → list_any (λ c. q == c) (filter (nat_lt 0) ks) ≡ true) → list_any (λ c. q == c) (cond up (k ∷ filter (nat_lt 0) ks) (filter (nat_lt 0) ks)) ≡ true
    go true up true is h later = ap (λ b. b || list_any (λ c. q == c) (filter (nat_lt 0) ks)) (sym alike ∙ is)
    go true up false is h later = ap (λ b. b || list_any (λ c. q == c) (filter (nat_lt 0) ks)) (sym alike ∙ is) ∙ later h
    go false up true is h later = let same : (q == k) ≡ true = sym alike ∙ is in absurd (grind (arith, nat_tests, same, above, up))
    go false up false is h later = later h

-- the entries without p's children
module _ (m : Entries) (p : ℕ) (h : AreFamilies m) where
  pub orphaned_at : (q : ℕ) → maps.get (orphaned m p) q ≡ left_of p (maps.get m q)
  unfolding orphaned
  orphaned_at q = all_released p m (filter (nat_lt 0) (maps.keys m)) q ∙ go (maps.get m q) refl
    where
      above : (e : Entry) → maps.get m q ≡ Some e → (b : Bool) → nat_lt 0 q ≡ b → nat_lt 0 q ≡ true
      above e there true is = is
      above e there false zero = let none : maps.get m q ≡ None = ap (maps.get m) (grind (arith, nat_tests, zero)) ∙ h.nobody in absurd (cc (none, there))

      any : Bool
      any = list_any (λ c. q == c) (filter (nat_lt 0) (maps.keys m))

      go : (o : Option Entry) → maps.get m q ≡ o → cond any (left_of p (maps.get m q)) (maps.get m q) ≡ left_of p (maps.get m q)
      go None there = either any
        where
          either : (b : Bool) → cond b (left_of p (maps.get m q)) (maps.get m q) ≡ left_of p (maps.get m q)
          either true = refl
          either false = there ∙ sym (ap (left_of p) there)
      go (Some e) there =
          ap (λ b. cond b (left_of p (maps.get m q)) (maps.get m q))
          (listed q (maps.keys m) (above e there (nat_lt 0 q) refl) (sym (maps.contains_key-keys m q) ∙ ap is_some there))

  abbrev pub left : Entries
  left = orphaned m p

  -- who is left was there with its parent, or is an orphan
  was : (q : ℕ) (x : Entry) → maps.get left q ≡ Some x → (e : Entry) × (maps.get m q ≡ Some e) × (e.life ≡ x.life) × (e.news ≡ x.news) × (((x.parent ≡ e.parent) × (x.parent == p ≡ false)) ⊎ ((x.parent ≡ 0) × (is_zombie x.life ≡ false)))
  was q x is = go (maps.get m q) refl (sym (orphaned_at q) ∙ is)
    where
      go : (o : Option Entry) → maps.get m q ≡ o → left_of p o ≡ Some x → (e : Entry) × (maps.get m q ≡ Some e) × (e.life ≡ x.life) × (e.news ≡ x.news) × (((x.parent ≡ e.parent) × (x.parent == p ≡ false)) ⊎ ((x.parent ≡ 0) × (is_zombie x.life ≡ false)))
      go None there h = absurd (cc h)
      go (Some e) there h = at (e.parent == p) refl (is_zombie e.life) refl h
        where
          at : (b : Bool) → (e.parent == p) ≡ b → (z : Bool) → is_zombie e.life ≡ z → cond b (cond z None (Some (record e { parent = 0 }))) (Some e) ≡ Some x →
              (e : Entry) × (maps.get m q ≡ Some e) × (e.life ≡ x.life) × (e.news ≡ x.news) × (((x.parent ≡ e.parent) × (x.parent == p ≡ false)) ⊎ ((x.parent ≡ 0) × (is_zombie x.life ≡ false)))
          at true is true zombie same = absurd (cc same)
          at true is false living same =
              let it : record e { parent = 0 } ≡ x = cc same in
              (e, there, ap (λ (y : Entry). y.life) it, ap (λ (y : Entry). y.news) it, inr (sym (ap (λ (y : Entry). y.parent) it), sym (ap (λ (y : Entry). is_zombie y.life) it) ∙ living))
          at false other z zombie same =
              let it : e ≡ x = cc same in
              (e, there, ap (λ (y : Entry). y.life) it, ap (λ (y : Entry). y.news) it, inl (sym (ap (λ (y : Entry). y.parent) it), sym (ap (λ (y : Entry). y.parent == p) it) ∙ other))

  -- who has not ended is still there
  here_left : (q : ℕ) → has_not_ended (maps.get m q) ≡ true → has_not_ended (maps.get left q) ≡ true
  here_left q is = ap has_not_ended (orphaned_at q) ∙ go (maps.get m q) is
    where
      go : (o : Option Entry) → has_not_ended o ≡ true → has_not_ended (left_of p o) ≡ true
      go None h = absurd (cc h)
      go (Some e) h = at (e.parent == p) (is_zombie e.life) refl
        where
          at : (b z : Bool) → is_zombie e.life ≡ z → has_not_ended (cond b (cond z None (Some (record e { parent = 0 }))) (Some e)) ≡ true
          at true true zombie = absurd (cc (ap not zombie, h))
          at true false other = h
          at false z any = h

  pub left_families : AreFamilies left
  left_families = record {
    parents = λ q x is. let o = was q x is in
        ⊎_elim (λ stays. subst (λ n. IsParent left n q) (sym stays.0) (⊎_elim (λ orphan. inl orphan) (λ has. inr (has.0, here_left o.0.parent has.1)) (h.parents q o.0 o.1))) (λ orphan. inl orphan.0) o.4;
    nobody = orphaned_at 0 ∙ ap (left_of p) h.nobody;
    zombies = λ q x is zombie zero. let o = was q x is in
        ⊎_elim (λ stays. h.zombies q o.0 o.1 (ap is_zombie o.2 ∙ zombie) (sym stays.0 ∙ zero)) (λ orphan. cc (orphan.1, zombie)) o.4;
    news = λ q x is dead. let o = was q x is in sym o.3 ∙ h.news q o.0 o.1 (ap is_alive o.2 ∙ dead);
  }

  -- nobody is p's child any more, but who is an orphan's where p is 0
  childless : (q : ℕ) (x : Entry) → maps.get left q ≡ Some x → (x.parent ≡ p) → (x.parent ≡ 0)
  childless q x is same = let o = was q x is in ⊎_elim (λ stays. absurd (grind (arith, nat_tests, same, stays.1))) (λ orphan. orphan.0) o.4

-- Who leaves, or stays as a zombie that a parent can wait for.

module _ (m m' : Entries) (p : ℕ) (h : AreFamilies m) (childless : (q : ℕ) (x : Entry) → maps.get m q ≡ Some x → x.parent ≡ p → x.parent ≡ 0)
    (others : (q : ℕ) → (q ≡ p → ⊥) → SameKin (maps.get m q) (maps.get m' q))
    (own : (x : Entry) → maps.get m' p ≡ Some x → (e : Entry) × (maps.get m p ≡ Some e) × (x.parent ≡ e.parent) × (x.news ≡ None) × (x.parent ≡ 0 → ⊥)) where
  other_is : (q : ℕ) → (q == p) ≡ false → (q ≡ p → ⊥)
  other_is q other same = absurd (grind (arith, nat_tests, other, same))

  -- another than p is a parent still
  parent_still : (parent child : ℕ) → (parent ≡ p → parent ≡ 0) → IsParent m parent child → IsParent m' parent child
  parent_still parent child orphan is = ⊎_elim (λ zero. inl zero) (λ has. go (parent == p) refl has) is
    where
      go : (b : Bool) → (parent == p) ≡ b → (parent < child) × (has_not_ended (maps.get m parent) ≡ true) → IsParent m' parent child
      go true same has = inl (orphan (equals parent p same))
      go false other has = inr (has.0, here_still (maps.get m parent) (maps.get m' parent) (others parent (other_is parent other)) has.1)

  -- what holds of each that was there, and of p
  each : (P : ℕ → Entry → Type 0) → ((x : Entry) → maps.get m' p ≡ Some x → P p x) → ((q : ℕ) (e x : Entry) → maps.get m q ≡ Some e → IsKin e x → P q x) → (q : ℕ) (x : Entry) → maps.get m' q ≡ Some x → P q x
  each P mine old q x is = go (q == p) refl
    where
      go : (b : Bool) → (q == p) ≡ b → P q x
      go true same = subst (λ n. P n x) (sym (equals q p same)) (mine x (subst (λ n. maps.get m' n ≡ Some x) (equals q p same) is))
      go false other = let o = was_there (maps.get m q) x (subst (SameKin (maps.get m q)) is (others q (other_is q other))) in old q o.0 x o.1 o.2

  pub left_alone : AreFamilies m'
  left_alone = record {
    parents = each (λ q x. IsParent m' x.parent q)
        (λ x is. let o = own x is in parent_still x.parent p (λ same. o.2 ∙ childless p o.0 o.1 (sym o.2 ∙ same)) (subst (λ n. IsParent m n p) (sym o.2) (h.parents p o.0 o.1)))
        (λ q e x there kin. parent_still x.parent q (λ same. kin.parent ∙ childless q e there (sym kin.parent ∙ same)) (subst (λ n. IsParent m n q) (sym kin.parent) (h.parents q e there)));
    nobody = zero (0 == p) refl;
    zombies = each (λ q x. is_zombie x.life ≡ true → (x.parent ≡ 0 → ⊥)) (λ x is zombie. (own x is).4) (λ q e x there kin zombie none. h.zombies q e there (sym kin.ended ∙ zombie) (sym kin.parent ∙ none));
    news = each (λ q x. is_alive x.life ≡ false → x.news ≡ None) (λ x is dead. (own x is).3) (λ q e x there kin. kin.quiet (h.news q e there));
  }
    where
      none : (o o' : Option Entry) → SameKin o o' → o ≡ None → o' ≡ None
      none None None same e = refl
      none None (Some e') same e = absurd same
      none (Some e) o' same is = absurd (cc is)

      mine : (o : Option Entry) → maps.get m' p ≡ o → 0 ≡ p → o ≡ None
      mine None there same = refl
      mine (Some x) there same =
          let o = own x there in
          let nobody : maps.get m p ≡ None = subst (λ n. maps.get m n ≡ None) same h.nobody in
          absurd (cc (nobody, o.1))

      zero : (b : Bool) → (0 == p) ≡ b → maps.get m' 0 ≡ None
      zero true same = ap (maps.get m') (equals 0 p same) ∙ mine (maps.get m' p) refl (equals 0 p same)
      zero false other = none (maps.get m 0) (maps.get m' 0) (others 0 (other_is 0 other)) h.nobody

module _ (m : Entries) (p w : ℕ) (h : AreFamilies m) (e : Entry) (there : maps.get m p ≡ Some e) (dead : is_alive e.life ≡ false) where
  not_zero : (p ≡ 0 → ⊥)
  not_zero zero = let none : maps.get m p ≡ None = subst (λ n. maps.get m n ≡ None) (sym zero) h.nobody in absurd (cc (none, there))

  not_own : (e.parent ≡ p → ⊥)
  not_own same = ⊎_elim (λ zero. not_zero (sym same ∙ zero)) (λ has. let less = has.0 in absurd (omega (arith, same, less))) (h.parents p e there)

  own_left : maps.get (left m p h) p ≡ Some e
  own_left = orphaned_at m p h p ∙ ap (left_of p) there ∙ ap (λ b. cond b (cond (is_zombie e.life) None (Some (record e { parent = 0 }))) (Some e)) (differs (e.parent == p) refl)
    where
      differs : (b : Bool) → (e.parent == p) ≡ b → (e.parent == p) ≡ false
      differs true same = absurd (not_own (equals e.parent p same))
      differs false other = other

  families : AreFamilies (left m p h)
  families = left_families m p h

  taken : AreFamilies (maps.remove (left m p h) p)
  taken = left_alone (left m p h) (maps.remove (left m p h) p) p families (childless m p h)
      (λ q ne. subst (SameKin (maps.get (left m p h) q)) (sym (removed_other (left m p h) p q (other q ne (q == p) refl))) (same_kin (maps.get (left m p h) q)))
      (λ x is. absurd (cc (maps.get-remove nat_cmp_total (left m p h) p p ∙ ap (λ b. cond b None (maps.get (left m p h) p)) alike, is)))
    where
      alike : eq_by_cmp nat_cmp p p ≡ true
      alike = grind (arith, nat_tests)

      other : (q : ℕ) → (q ≡ p → ⊥) → (b : Bool) → (q == p) ≡ b → (q == p) ≡ false
      other q ne true same = absurd (ne (equals q p same))
      other q ne false is = is

  zombie : (e.parent ≡ 0 → ⊥) → AreFamilies (changed (changed (left m p h) e.parent (λ x. told x p w)) p (λ x. with_life x (Zombie w)))
  zombie has = left_alone (left m p h) (changed n p f) p families (childless m p h) others own
    where
      n : Entries
      n = changed (left m p h) e.parent (λ x. told x p w)

      f : Entry → Entry
      f x = with_life x (Zombie w)

      others : (q : ℕ) → (q ≡ p → ⊥) → SameKin (maps.get (left m p h) q) (maps.get (changed n p f) q)
      others q ne = subst (SameKin (maps.get (left m p h) q)) (sym (entry_other n p q f (maps.get n p) ne))
          (changed_kin (left m p h) e.parent (λ x. told x p w) (λ x is. record { parent = refl; ended = refl; quiet = λ quiet. quiet }) q)

      there_still : maps.get n p ≡ Some e
      there_still = entry_other (left m p h) e.parent p (λ x. told x p w) (maps.get (left m p h) e.parent) (λ same. not_own (sym same)) ∙ own_left

      now : maps.get (changed n p f) p ≡ Some (f e)
      now = ap (λ o. maps.get (changed_entry n p f o) p) there_still ∙ there_now nat_cmp_total n p (f e)

      own : (x : Entry) → maps.get (changed n p f) p ≡ Some x → (y : Entry) × (maps.get (left m p h) p ≡ Some y) × (x.parent ≡ y.parent) × (x.news ≡ None) × (x.parent ≡ 0 → ⊥)
      own x is =
          let it : f e ≡ x = cc (now, is) in
          (e, own_left, sym (ap (λ (y : Entry). y.parent) it), sym (ap (λ (y : Entry). y.news) it) ∙ h.news p e there dead, λ zero. has (ap (λ (y : Entry). y.parent) it ∙ zero))

  retired_families : (o : Option Entry) → maps.get (left m p h) e.parent ≡ o → AreFamilies (retired_by (left m p h) p w e.parent o)
  retired_families None at = taken
  retired_families (Some x) at = go (wants_no_news x)
    where
      has : (e.parent ≡ 0 → ⊥)
      has zero = let none : maps.get (left m p h) e.parent ≡ None = subst (λ n. maps.get (left m p h) n ≡ None) (sym zero) families.nobody in absurd (cc (none, at))

      go : (b : Bool) → AreFamilies (cond b (maps.remove (left m p h) p) (changed (changed (left m p h) e.parent (λ x. told x p w)) p (λ x. with_life x (Zombie w))))
      go true = taken
      go false = zombie has

pub buried_families : (s : Shared) (p w : ℕ) → AreFamilies s.entries → ((e : Entry) → maps.get s.entries p ≡ Some e → is_alive e.life ≡ false) → AreFamilies (buried s p w).entries
unfolding buried
buried_families s p w h dead = go (maps.get s.entries p) refl
  where
    go : (o : Option Entry) → maps.get s.entries p ≡ o → AreFamilies (buried_entry s.entries p w o)
    go None there = h
    go (Some e) there = retired_families s.entries p w h e there (dead e there) (maps.get (orphaned s.entries p) e.parent) refl
