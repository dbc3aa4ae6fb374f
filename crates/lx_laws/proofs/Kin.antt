-- Changes of entries that keep families.
use Rattle.std.proofs.Common.{◌≡◌, ℕ, ◌<◌, inl, inr, ⊎_elim, Bool, true, false, cond, Option, Some, None, refl, ap, sym, subst, ◌∙◌, arith}
use Rattle.std.proofs.lemmas.Bool.Decides.{nat_tests}
use Rattle.std.specs.Prelude.{◌==◌, not}
use Rattle.std.specs.Cmp.{nat_cmp_total}
use Rattle.std.specs.FinMap as maps
use Rattle.lx_abi.specs.declared.log.Cause.{Cause}
use Rattle.lx_abi.specs.declared.signal.Signal.{Signal}
use Rattle.lx_sig.specs.Pending.{settled}
use Rattle.lx_sig.specs.declared.state.Signals.{Signals}
use Rattle.lx_proc.specs.Families.{is_zombie}
use Rattle.lx_proc.specs.State.{Entries, changed, changed_entry, with_news, with_signals}
use Rattle.lx_proc.specs.declared.state.Entry.{Entry}
use Rattle.lx_proc.specs.declared.state.News.{News}
use Rattle.lx_proc.specs.declared.state.News.TheVariants as news
use Rattle.lx_proc.specs.declared.state.Life.TheVariants.{Alive, Dying}
use Rattle.lx_proc.specs.declared.state.Shared.{Shared}
use Rattle.lx_pcalls.specs.Clone.{child_entry}
use Rattle.lx_pcalls.specs.Ends.{dies, told_of, wants_no_news, with_life}
use Rattle.lx_pcalls.specs.Stops.{heard, heard_by, settled_at, stop_entry, stopped, wake_entry, woken}
use Rattle.lx_pcalls.specs.Wait4.{told_child, told_entry}
use Rattle.lx_sound.specs.Parts.{is_alive}
use Rattle.lx_sound.proofs.Maps.{inserted_other, removed_other, there_now}
use Rattle.lx_laws.specs.Families.{has_not_ended, IsParent, AreFamilies}

equals : (n k : ℕ) → (n == k) ≡ true → n ≡ k
equals n k h = grind (arith, nat_tests)

-- nothing is left to tell of who doesn't live
abbrev pub IsQuiet : Entry → Type 0
IsQuiet e = is_alive e.life ≡ false → e.news ≡ None

pub record IsKin (e e' : Entry) : Type 0 where
  pub parent : e'.parent ≡ e.parent
  pub ended : is_zombie e'.life ≡ is_zombie e.life
  pub quiet : IsQuiet e → IsQuiet e'

-- an entry stays with its parent, or is a zombie's and leaves
abbrev pub SameKin : Option Entry → Option Entry → Type 0
SameKin None None = Unit {0}
SameKin None (Some e') = ⊥
SameKin (Some e) None = is_zombie e.life ≡ true
SameKin (Some e) (Some e') = IsKin e e'

abbrev pub KeepsKin : Entries → Entries → Type 0
KeepsKin m m' = (q : ℕ) → SameKin (maps.get m q) (maps.get m' q)

pub same_entry : (e : Entry) → IsKin e e
same_entry e = record { parent = refl; ended = refl; quiet = λ h. h }

pub same_kin : (o : Option Entry) → SameKin o o
same_kin None = tt
same_kin (Some e) = same_entry e

then_kin : (a b c : Option Entry) → SameKin a b → SameKin b c → SameKin a c
then_kin None None None h g = tt
then_kin None None (Some z) h g = absurd g
then_kin None (Some y) c h g = absurd h
then_kin (Some x) None None h g = h
then_kin (Some x) None (Some z) h g = absurd g
then_kin (Some x) (Some y) None h g = sym h.ended ∙ g
then_kin (Some x) (Some y) (Some z) h g = record { parent = g.parent ∙ h.parent; ended = g.ended ∙ h.ended; quiet = λ quiet. g.quiet (h.quiet quiet) }

pub kin_stay : (m : Entries) → KeepsKin m m
kin_stay m q = same_kin (maps.get m q)

pub kin_then : (a b c : Entries) → KeepsKin a b → KeepsKin b c → KeepsKin a c
kin_then a b c h g q = then_kin (maps.get a q) (maps.get b q) (maps.get c q) (h q) (g q)

-- So families stay.

pub here_still : (o o' : Option Entry) → SameKin o o' → has_not_ended o ≡ true → has_not_ended o' ≡ true
here_still None o' same h = absurd (cc h)
here_still (Some e) None same h = absurd (cc (ap not same, h))
here_still (Some e) (Some e') same h = ap not same.ended ∙ h

pub was_there : (o : Option Entry) (e' : Entry) → SameKin o (Some e') → (e : Entry) × (o ≡ Some e) × IsKin e e'
was_there None e' same = absurd same
was_there (Some e) e' same = (e, refl, same)

module _ (m m' : Entries) (h : AreFamilies m) (keeps : KeepsKin m m') where
  old : (p : ℕ) (e' : Entry) → maps.get m' p ≡ Some e' → (e : Entry) × (maps.get m p ≡ Some e) × IsKin e e'
  old p e' is = was_there (maps.get m p) e' (subst (SameKin (maps.get m p)) is (keeps p))

  still_parent : (parent parent' child : ℕ) → parent' ≡ parent → IsParent m parent child → IsParent m' parent' child
  still_parent parent parent' child same is =
      subst (λ n. IsParent m' n child) (sym same) (⊎_elim (λ orphan. inl orphan) (λ has. inr (has.0, here_still (maps.get m parent) (maps.get m' parent) (keeps parent) has.1)) is)

  pub families_stay : AreFamilies m'
  families_stay = record {
    parents = λ p e' is. let x = old p e' is in still_parent x.0.parent e'.parent p x.2.parent (h.parents p x.0 x.1);
    nobody = none (maps.get m 0) (maps.get m' 0) (keeps 0) h.nobody;
    zombies = λ p e' is zombie. let x = old p e' is in λ zero. h.zombies p x.0 x.1 (sym x.2.ended ∙ zombie) (sym x.2.parent ∙ zero);
    news = λ p e' is. let x = old p e' is in x.2.quiet (h.news p x.0 x.1);
  }
    where
      none : (o o' : Option Entry) → SameKin o o' → o ≡ None → o' ≡ None
      none None None same e = refl
      none None (Some e') same e = absurd same
      none (Some e) o' same is = absurd (cc is)

-- The table with an entry changed, or without one.

pub put_kin : (m : Entries) (k : ℕ) (e e' : Entry) → maps.get m k ≡ Some e → IsKin e e' → KeepsKin m (maps.insert m k e')
put_kin m k e e' there keeps q = go (q == k) refl
  where
    go : (b : Bool) → (q == k) ≡ b → SameKin (maps.get m q) (maps.get (maps.insert m k e') q)
    go false other = subst (SameKin (maps.get m q)) (sym (inserted_other m k e' q other)) (same_kin (maps.get m q))
    go true is =
        subst (λ (n : ℕ). SameKin (maps.get m n) (maps.get (maps.insert m k e') n)) (sym (equals q k is))
        (subst (λ o. SameKin o (maps.get (maps.insert m k e') k)) (sym there) (subst (SameKin (Some e)) (sym (there_now nat_cmp_total m k e')) keeps))

pub taken_kin : (m : Entries) (k : ℕ) (e : Entry) → maps.get m k ≡ Some e → is_zombie e.life ≡ true → KeepsKin m (maps.remove m k)
taken_kin m k e there zombie q = go (q == k) refl
  where
    gone : maps.get (maps.remove m k) k ≡ None
    gone = maps.get-remove nat_cmp_total m k k ∙ grind (arith, nat_tests)

    go : (b : Bool) → (q == k) ≡ b → SameKin (maps.get m q) (maps.get (maps.remove m k) q)
    go false other = subst (SameKin (maps.get m q)) (sym (removed_other m k q other)) (same_kin (maps.get m q))
    go true is =
        subst (λ (n : ℕ). SameKin (maps.get m n) (maps.get (maps.remove m k) n)) (sym (equals q k is))
        (subst (λ o. SameKin o (maps.get (maps.remove m k) k)) (sym there) (subst (SameKin (Some e)) (sym gone) zombie))

pub changed_kin : (m : Entries) (k : ℕ) (f : Entry → Entry) → ((e : Entry) → maps.get m k ≡ Some e → IsKin e (f e)) → KeepsKin m (changed m k f)
changed_kin m k f keeps = go (maps.get m k) refl
  where
    go : (o : Option Entry) → maps.get m k ≡ o → KeepsKin m (changed_entry m k f o)
    go None there = kin_stay m
    go (Some e) there = put_kin m k e (f e) there (keeps e there)

pub signals_kin : (m : Entries) (k : ℕ) (f : Entry → Signals) → KeepsKin m (changed m k (λ e. with_signals e (f e)))
signals_kin m k f = changed_kin m k (λ e. with_signals e (f e)) (λ e there. record { parent = refl; ended = refl; quiet = λ h. h })

pub no_news_kin : (m : Entries) (k : ℕ) → KeepsKin m (changed m k (λ e. with_news e None))
no_news_kin m k = changed_kin m k (λ e. with_news e None) (λ e there. record { parent = refl; ended = refl; quiet = λ h dead. refl })

-- of who lives there may be news
pub news_kin : (m : Entries) (k : ℕ) (x : News) → ((e : Entry) → maps.get m k ≡ Some e → e.life ≡ Alive) → KeepsKin m (changed m k (λ e. with_news e (Some x)))
news_kin m k x lives = changed_kin m k (λ e. with_news e (Some x)) (λ e there. record { parent = refl; ended = refl; quiet = λ h dead. absurd (cc (ap is_alive (lives e there), dead)) })

pub heard_kin : (m : Entries) (parent : ℕ) (c : Cause) → KeepsKin m (heard m parent c)
heard_kin m parent c = go (maps.get m parent)
  where
    either : (b : Bool) → KeepsKin m (cond b m (changed m parent (λ e. told_of e c)))
    either true = kin_stay m
    either false = changed_kin m parent (λ e. told_of e c) (λ e there. record { parent = refl; ended = refl; quiet = λ h. h })

    go : (o : Option Entry) → KeepsKin m (heard_by m parent c o)
    go None = kin_stay m
    go (Some e) = either (wants_no_news e)

-- A process that lives is stopped, is woken, or enters Dying.

module _ (s : Shared) (p : ℕ) (lives : (e : Entry) → maps.get s.entries p ≡ Some e → e.life ≡ Alive) where
  pub stopped_kin : (signal : Signal) → KeepsKin s.entries (stopped s p signal).entries
  unfolding stopped
  stopped_kin signal = go (maps.get s.entries p)
    where
      go : (o : Option Entry) → KeepsKin s.entries (stop_entry s.entries p signal o)
      go None = kin_stay s.entries
      go (Some e) =
          let m = changed s.entries p (λ e. with_news e (Some (news.Stopped signal))) in
          kin_then s.entries m (heard m e.parent _) (news_kin s.entries p (news.Stopped signal) lives) (heard_kin m e.parent _)

  settled_lives : (o : Option Entry) → maps.get s.entries p ≡ o → (e : Entry) → maps.get (changed_entry s.entries p (λ e. with_signals e (settled e.signals)) o) p ≡ Some e → e.life ≡ Alive
  settled_lives None there e is = lives e is
  settled_lives (Some x) there e is =
      let now : maps.get (maps.insert s.entries p (with_signals x (settled x.signals))) p ≡ Some (with_signals x (settled x.signals)) = there_now nat_cmp_total s.entries p (with_signals x (settled x.signals)) in
      let same : with_signals x (settled x.signals) ≡ e = cc (now, is) in
      sym (ap (λ (y : Entry). y.life) same) ∙ lives x there

  pub woken_kin : KeepsKin s.entries (woken s p).entries
  unfolding woken
  woken_kin = go (maps.get s.entries p)
    where
      go : (o : Option Entry) → KeepsKin s.entries (wake_entry s.entries p o)
      go None = kin_stay s.entries
      go (Some e) =
          let one = settled_at s.entries p in
          let two = changed one p (λ e. with_news e (Some news.Continued)) in
          kin_then s.entries one (heard two e.parent _) (signals_kin s.entries p (λ e. settled e.signals))
          (kin_then one two (heard two e.parent _) (news_kin one p news.Continued (settled_lives (maps.get s.entries p) refl)) (heard_kin two e.parent _))

  dying_kin : (w : ℕ) (o : Option Entry) → maps.get s.entries p ≡ o → KeepsKin s.entries (changed (changed_entry s.entries p (λ e. with_news e None) o) p (λ e. with_life e (Dying w)))
  dying_kin w None there = changed_kin s.entries p (λ e. with_life e (Dying w)) (λ e is. absurd (cc (there, is)))
  dying_kin w (Some x) there =
      let quiet : Entry = with_news x None in
      let m = maps.insert s.entries p quiet in
      let now : maps.get m p ≡ Some quiet = there_now nat_cmp_total s.entries p quiet in
      kin_then s.entries m (changed m p (λ e. with_life e (Dying w)))
      (put_kin s.entries p x quiet there (record { parent = refl; ended = refl; quiet = λ h dead. refl }))
      (changed_kin m p (λ e. with_life e (Dying w)) (λ e is.
      let same : quiet ≡ e = cc (now, is) in
      subst (λ (y : Entry). IsKin y (with_life y (Dying w))) same (record { parent = refl; ended = sym (ap is_zombie (lives x there)); quiet = λ h dead. refl })))

  pub dies_kin : (w : ℕ) → KeepsKin s.entries (dies s p w).entries
  dies_kin w = dying_kin w (maps.get s.entries p) refl

-- A child is told of.

pub told_kin : (s : Shared) (n : ℕ) → KeepsKin s.entries (told_child s n).entries
told_kin s n = go (maps.get s.entries n) refl
  where
    either : (e : Entry) → maps.get s.entries n ≡ Some e → (b : Bool) → is_zombie e.life ≡ b → KeepsKin s.entries (cond b (maps.remove s.entries n) (changed s.entries n (λ e. with_news e None)))
    either e there true zombie = taken_kin s.entries n e there zombie
    either e there false other = no_news_kin s.entries n

    go : (o : Option Entry) → maps.get s.entries n ≡ o → KeepsKin s.entries (told_entry s.entries n o)
    go None there = kin_stay s.entries
    go (Some e) there = either e there (is_zombie e.life) refl

-- A child is born: its parent lives, and has a lower pid.

module _ (m : Entries) (p child : ℕ) (e : Entry) (h : AreFamilies m) (lower : p < child) (vacant : maps.get m child ≡ None) (here : has_not_ended (maps.get m p) ≡ true) where
  abbrev pub more : Entries
  more = maps.insert m child (child_entry e p)

  still_here : (q : ℕ) → has_not_ended (maps.get m q) ≡ true → has_not_ended (maps.get more q) ≡ true
  still_here q is = go (q == child) refl
    where
      go : (b : Bool) → (q == child) ≡ b → has_not_ended (maps.get more q) ≡ true
      go false other = ap has_not_ended (inserted_other m child (child_entry e p) q other) ∙ is
      go true same = ap (λ n. has_not_ended (maps.get more n)) (equals q child same) ∙ ap has_not_ended (there_now nat_cmp_total m child (child_entry e p))

  still : (parent q : ℕ) → IsParent m parent q → IsParent more parent q
  still parent q is = ⊎_elim (λ orphan. inl orphan) (λ has. inr (has.0, still_here parent has.1)) is

  -- each entry is the child's, or was there
  each : (P : ℕ → Entry → Type 0) → P child (child_entry e p) → ((q : ℕ) (x : Entry) → maps.get m q ≡ Some x → P q x) → (q : ℕ) (x : Entry) → maps.get more q ≡ Some x → P q x
  each P new was q x is = go (q == child) refl
    where
      go : (b : Bool) → (q == child) ≡ b → P q x
      go false other = was q x (sym (inserted_other m child (child_entry e p) q other) ∙ is)
      go true same =
          let now : maps.get more child ≡ Some (child_entry e p) = there_now nat_cmp_total m child (child_entry e p) in
          let at : maps.get more child ≡ Some x = subst (λ n. maps.get more n ≡ Some x) (equals q child same) is in
          let it : child_entry e p ≡ x = cc (now, at) in
          subst (λ (y : Entry). P q y) it (subst (λ n. P n (child_entry e p)) (sym (equals q child same)) new)

  pub born_families : AreFamilies more
  born_families = record {
    parents = each (λ q x. IsParent more x.parent q) (inr (lower, still_here p here)) (λ q x is. still x.parent q (h.parents q x is));
    nobody = inserted_other m child (child_entry e p) 0 (grind (arith, nat_tests, lower)) ∙ h.nobody;
    zombies = each (λ q x. is_zombie x.life ≡ true → (x.parent ≡ 0 → ⊥)) (λ zombie zero. cc zombie) h.zombies;
    news = each (λ q x. is_alive x.life ≡ false → x.news ≡ None) (λ dead. refl) h.news;
  }
