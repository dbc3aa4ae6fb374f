-- Processes that end, and that are born, keep a state sound.
use Rattle.std.proofs.Common.{◌≡◌, ℕ, zero, suc, ◌+◌, ◌<◌, ◌≤◌, ◌&&◌, ◌⊎◌, inl, inr, ⊎_elim, Bool, true, false, cond, List, [], ◌∷◌, Option, Some, None, refl, ap, sym, subst, ◌∙◌, arith}
use Rattle.std.proofs.lemmas.Bool.Decides.{nat_tests}
use Rattle.std.specs.Prelude.{◌==◌, nat_lt, nat_le, fold, max, is_some, IsSome}
use Rattle.std.proofs.Math.Nat.{le-max_right}
use Rattle.std.specs.List.{filter, range_with_len}
use Rattle.std.specs.Cmp.{nat_cmp_total}
use Rattle.std.specs.FinMap as maps
use Rattle.lx_model.specs.Kernel.{put}
use Rattle.lx_model.specs.declared.stage.Stage.{Stage}
use Rattle.lx_model.specs.declared.stage.Stage.TheVariants.{Born}
use Rattle.lx_model.specs.declared.stage.Task.{Task}
use Rattle.lx_model.specs.declared.stage.Task.TheVariants as task
use Rattle.lx_abi.specs.Limits.{most_fds}
use Rattle.lx_files.specs.declared.tree.Tree.{Tree}
use Rattle.lx_open.specs.Kinds.{SlotMap, DescriptionMap}
use Rattle.lx_open.specs.Opens.{pair, inherited_slot, inherited_each, inherited}
use Rattle.lx_open.specs.Releases.{Held, all_closed}
use Rattle.lx_open.specs.declared.description.Slot.{Slot}
use Rattle.lx_open.specs.declared.fd_table.FdTable.{FdTable}
use Rattle.lx_abi.specs.declared.log.Cause.{Cause}
use Rattle.lx_abi.specs.declared.log.Cause.TheVariants as cause
use Rattle.lx_abi.specs.declared.signal.Signal.{Signal}
use Rattle.lx_sig.specs.Pending.{settled}
use Rattle.lx_proc.specs.declared.state.Entry.{Entry}
use Rattle.lx_proc.specs.declared.state.News.{News}
use Rattle.lx_proc.specs.declared.state.News.TheVariants as news
use Rattle.lx_proc.specs.declared.state.Life.{Life}
use Rattle.lx_proc.specs.declared.state.Life.TheVariants.{Alive, Dying, Zombie}
use Rattle.lx_proc.specs.declared.state.Shared.{Shared}
use Rattle.lx_proc.specs.declared.state.UserState.{UserState}
use Rattle.lx_proc.specs.State.{Entries, changed, changed_entry, with_entries, with_held, with_news, with_signals}
use Rattle.lx_proc.specs.Families.{is_zombie}
use Rattle.lx_proc.specs.WaitWords.{Words}
use Rattle.lx_pcalls.specs.Clone.{has_room, with_child, child_entry}
use Rattle.lx_pcalls.specs.Ends.{with_life, sigchld, cause_of_end, dies, orphan, released_entry, released, orphaned, told, told_of, wants_no_news, retired_by, buried_entry, buried}
use Rattle.lx_pcalls.specs.Stops.{heard_by, stopped, stop_entry, settles, wake_entry, woken}
use Rattle.lx_kernel.proofs.Placed.{put_twice}
use Rattle.lx_sound.specs.Parts.{is_alive, lives, EntrySound, EntriesSound, AreOwned, PartsSound}
use Rattle.lx_sound.specs.Pages.{HasFewPages, IsSmall}
use Rattle.lx_sound.specs.Sound.{Agree, HasWord, Sound}
use Rattle.lx_sound.proofs.Maps.{inserted, there_now, removed, inserted_other, removed_other}
use Rattle.lx_sound.proofs.Together.{inherited_together, all_closed_together}
use Rattle.lx_sound.proofs.Reached.{inherited_reached, all_closed_reached}
use Rattle.lx_sound.proofs.Fewer.{all_closed_fewer, none_left}
use Rattle.lx_sound.proofs.Entries.{SameEntry, SameEntries, put_len, take_len, entries_stay, entries_then, put_same, taken_same, gone, changed_same, put_sound, taken_sound, changed_sound, signals_sound, received_sound}
use Rattle.lx_sound.proofs.Changes.{Loses, parts_done, entered}
use Rattle.lx_sound.proofs.Keeping.{Keeps, keeps_all, keeps_then, changed_keeps, kept_sound, entries_keep}
use Rattle.lx_sound.proofs.Masks.{settled_signals}

abbrev Tasks : Type 0
Tasks = ℕ → Task UserState

has_same : (words words' : Words) (q : ℕ) (l : Life) → maps.get words' q ≡ maps.get words q → HasWord words q l → HasWord words' q l
has_same words words' q Alive same h = tt
has_same words words' q (Dying w) same h = same ∙ h
has_same words words' q (Zombie w) same h = same ∙ h

turned_about : (p q : ℕ) → (p == q) ≡ false → (q == p) ≡ false
turned_about p q h = grind (arith, nat_tests, h)

-- A living process stands at another stage.

alive_agrees : (o : Option Entry) (b c : UserState) (stage next : Stage) → Agree o (task.Alive b stage) → Agree o (task.Alive c next)
alive_agrees None b c stage next h = h
alive_agrees (Some e) b c stage next h = h

-- a process's memory is small, and so is each other's
put_small : (tasks : Tasks) (p : ℕ) (t : Task UserState) → IsSmall t → ((q : ℕ) → IsSmall (tasks q)) → (q : ℕ) → IsSmall (put tasks p t q)
put_small tasks p t small h q = go (p == q)
  where
    go : (b : Bool) → IsSmall (cond b t (tasks q))
    go true = small
    go false = h q

pub stands : (s : Shared) (tasks : Tasks) (child p : ℕ) (b c : UserState) (stage next : Stage) → tasks p ≡ task.Alive b stage → HasFewPages c.memory → Sound s tasks child → Sound s (put tasks p (task.Alive c next)) child
stands s tasks child p b c stage next is small h =
    record { parts = h.parts; agree = λ q. go q (p == q) refl; words = h.words; pids = h.pids; live = h.live; last = h.last; pages = put_small tasks p (task.Alive c next) small h.pages }
  where
    go : (q : ℕ) (t : Bool) → (p == q) ≡ t → Agree (maps.get s.entries q) (cond t (task.Alive c next) (tasks q))
    go q false other = h.agree q
    go q true eq =
        let same : p ≡ q = grind (arith, nat_tests, eq) in
        subst (λ i. Agree (maps.get s.entries i) (task.Alive c next)) same (alive_agrees (maps.get s.entries p) b c stage next (subst (Agree (maps.get s.entries p)) is (h.agree p)))

pub stays_gone : (s : Shared) (tasks : Tasks) (child p : ℕ) → tasks p ≡ task.Gone → Sound s tasks child → Sound s (put tasks p task.Gone) child
stays_gone s tasks child p is h =
    record { parts = h.parts; agree = λ q. go q (p == q) refl; words = h.words; pids = h.pids; live = h.live; last = h.last; pages = put_small tasks p task.Gone tt h.pages }
  where
    go : (q : ℕ) (t : Bool) → (p == q) ≡ t → Agree (maps.get s.entries q) (cond t task.Gone (tasks q))
    go q false other = h.agree q
    go q true eq =
        let same : p ≡ q = grind (arith, nat_tests, eq) in
        subst (λ i. Agree (maps.get s.entries i) task.Gone) same (subst (Agree (maps.get s.entries p)) is (h.agree p))

-- A process has an entry of another life, and stands elsewhere.

module _ (s : Shared) (tasks : Tasks) (child p : ℕ) (h : Sound s tasks child) (old x : Entry) (next : Task UserState) where
  pub relived : maps.get s.entries p ≡ Some old → Agree (Some x) next → IsSmall next → (words : Words) → ((q : ℕ) → (q == p) ≡ false → maps.get words q ≡ maps.get s.ended q) → HasWord words p x.life
      → (t : Shared) → PartsSound t → t.entries ≡ maps.insert s.entries p x → t.ended ≡ words → t.limits ≡ s.limits → Sound t (put tasks p next) child
  relived is agrees small words others has t parts es ws ls = record {
    parts = parts;
    agree = λ q. subst (λ (m : Entries). Agree (maps.get m q) (put tasks p next q)) (sym es) (agree_at q (p == q) refl);
    words = λ q e e_is. subst (λ (w : Words). HasWord w q e.life) (sym ws) (words_at q e (q == p) refl (ap (λ (m : Entries). maps.get m q) (sym es) ∙ e_is));
    pids = λ q le. ap (λ (m : Entries). maps.get m q) es ∙ pids_at q (q == p) refl le;
    live = rw (es, ls) (subst (λ n. n ≤ max 1 s.limits.live) (sym (put_len s.entries p x (ap is_some is))) h.live);
    last = rw ls h.last;
    pages = put_small tasks p next small h.pages;
  }
    where
      agree_at : (q : ℕ) (t : Bool) → (p == q) ≡ t → Agree (maps.get (maps.insert s.entries p x) q) (cond t next (tasks q))
      agree_at q false other = subst (λ o. Agree o (tasks q)) (sym (inserted_other s.entries p x q (turned_about p q other))) (h.agree q)
      agree_at q true eq =
          let same : p ≡ q = grind (arith, nat_tests, eq) in
          subst (λ i. Agree (maps.get (maps.insert s.entries p x) i) next) same (subst (λ o. Agree o next) (sym (there_now nat_cmp_total s.entries p x)) agrees)

      words_at : (q : ℕ) (e : Entry) (t : Bool) → (q == p) ≡ t → maps.get (maps.insert s.entries p x) q ≡ Some e → HasWord words q e.life
      words_at q e false other e_is = has_same s.ended words q e.life (others q other) (h.words q e (sym (inserted_other s.entries p x q other) ∙ e_is))
      words_at q e true eq e_is =
          let same : p ≡ q = grind (arith, nat_tests, eq) in
          let there : maps.get (maps.insert s.entries p x) q ≡ Some x = subst (λ i. maps.get (maps.insert s.entries p x) i ≡ Some x) same (there_now nat_cmp_total s.entries p x) in
          let it : x ≡ e = cc (there, e_is) in
          subst (λ (y : Entry). HasWord words q y.life) it (subst (λ i. HasWord words i x.life) same has)

      pids_at : (q : ℕ) (t : Bool) → (q == p) ≡ t → child ≤ q → maps.get (maps.insert s.entries p x) q ≡ None
      pids_at q false other le = inserted_other s.entries p x q other ∙ h.pids q le
      pids_at q true eq le =
          let same : q ≡ p = grind (arith, nat_tests, eq) in
          let none : maps.get s.entries p ≡ None = subst (λ i. maps.get s.entries i ≡ None) same (h.pids q le) in
          absurd (cc (none, is))

-- A process that enters Dying.

-- a process of another life, which has no descriptors
relived_parts : (s : Shared) (p : ℕ) (l : Life) → PartsSound s → ((fd : ℕ) → fd < most_fds → maps.get s.fds.slots (pair p fd) ≡ None)
    → (t : Shared) → t.tree ≡ s.tree → t.fds ≡ s.fds → t.console ≡ s.console → t.entries ≡ changed s.entries p (λ e. with_life e l) → PartsSound t
relived_parts s p l h none t tree fds console es = record {
  files = rw (tree, fds) h.files;
  reached = rw (tree, fds) h.reached;
  rooted = rw tree h.rooted;
  entries = rw (tree, es) (changed_sound s.tree s.entries p (λ e. with_life e l) (λ e sound. record { directory = sound.directory; signals = sound.signals }) h.entries);
  owned = rw (fds, es) owned;
  within = record { nodes = rw tree h.within.nodes; files = rw tree h.within.files; contents = rw (tree, console) h.within.contents; offsets = rw fds h.within.offsets };
}
  where
    elsewhere : (q : ℕ) → (q == p) ≡ false → (o : Option Entry) → lives (maps.get s.entries q) ≡ true → lives (maps.get (changed_entry s.entries p (λ e. with_life e l) o) q) ≡ true
    elsewhere q other None alive = alive
    elsewhere q other (Some e) alive = ap lives (inserted_other s.entries p (with_life e l) q other) ∙ alive

    owned : AreOwned s.fds (changed s.entries p (λ e. with_life e l))
    owned q fd below there = go (q == p) refl
      where
        go : (b : Bool) → (q == p) ≡ b → lives (maps.get (changed s.entries p (λ e. with_life e l)) q) ≡ true
        go false other = elsewhere q other (maps.get s.entries p) (h.owned q fd below there)
        go true eq =
            let same : p ≡ q = grind (arith, nat_tests, eq) in
            let gone : maps.get s.fds.slots (pair q fd) ≡ None = subst (λ i. maps.get s.fds.slots (pair i fd) ≡ None) same (none fd below) in
            absurd (cc (gone, there))

died_parts : (s : Shared) (p w : ℕ) → lives (maps.get s.entries p) ≡ true → PartsSound s → PartsSound (dies s p w)
died_parts s p w alive h =
    let left : Held = all_closed s.tree s.fds p in
    let closed : Shared = with_held s left in
    let told : Entries = changed s.entries p (λ e. with_news e None) in
    let parts : PartsSound closed = parts_done s p h alive (Loses left) ((λ x. all_closed_together s.tree s.fds x p), all_closed_fewer s.tree s.fds p, (λ x. all_closed_reached s.tree s.fds x p)) in
    relived_parts (with_entries closed told) p (Dying w) (entered closed parts told (changed_same s.entries p (λ e. with_news e None) (λ e. refl)) (changed_sound left.tree s.entries p (λ e. with_news e None) (λ e sound. record { directory = sound.directory; signals = sound.signals }))) (λ fd below. none_left s.tree s.fds p fd below)
    (dies s p w) refl refl refl refl

-- an entry that is changed once more
changed_twice : (m : Entries) (p : ℕ) (f g : Entry → Entry) (e : Entry) → maps.get m p ≡ Some e → changed (changed m p f) p g ≡ maps.insert m p (g (f e))
changed_twice m p f g e there =
    ap (λ o. changed (changed_entry m p f o) p g) there
    ∙ ap (changed_entry (maps.insert m p (f e)) p g) (there_now nat_cmp_total m p (f e))
    ∙ put_twice m p (f e) (g (f e))

-- who doesn't live has no descriptors
no_slots : (s : Shared) (p : ℕ) → PartsSound s → lives (maps.get s.entries p) ≡ false → (fd : ℕ) → fd < most_fds → maps.get s.fds.slots (pair p fd) ≡ None
no_slots s p h dead fd below = go (maps.get s.fds.slots (pair p fd)) refl
  where
    go : (o : Option Slot) → maps.get s.fds.slots (pair p fd) ≡ o → o ≡ None
    go None is = refl
    go (Some x) is = let alive : lives (maps.get s.entries p) ≡ true = h.owned p fd below (ap is_some is) in absurd (cc (alive, dead))

dying_dead : (o : Option Entry) (w : ℕ) → Agree o (task.Dying w) → lives o ≡ false
dying_dead None w agrees = refl
dying_dead (Some e) w agrees = ap is_alive agrees

left_parts : (s : Shared) (p : ℕ) → PartsSound s → lives (maps.get s.entries p) ≡ false → PartsSound (with_entries s (maps.remove s.entries p))
left_parts s p h dead = record {
  files = h.files;
  reached = h.reached;
  rooted = h.rooted;
  entries = taken_sound s.tree s.entries p h.entries;
  owned = λ q fd below there. go q (q == p) refl (h.owned q fd below there);
  within = record { nodes = h.within.nodes; files = h.within.files; contents = h.within.contents; offsets = h.within.offsets };
}
  where
    go : (q : ℕ) (b : Bool) → (q == p) ≡ b → lives (maps.get s.entries q) ≡ true → lives (maps.get (maps.remove s.entries p) q) ≡ true
    go q false other alive = ap lives (removed_other s.entries p q other) ∙ alive
    go q true eq alive =
        let same : p ≡ q = grind (arith, nat_tests, eq) in
        let none : lives (maps.get s.entries q) ≡ false = subst (λ i. lives (maps.get s.entries i) ≡ false) same dead in
        absurd (cc (none, alive))

pub dies_sound : (s : Shared) (tasks : Tasks) (child p w : ℕ) (b : UserState) (stage : Stage) → tasks p ≡ task.Alive b stage → Sound s tasks child → Sound (dies s p w) (put tasks p (task.Dying w)) child
dies_sound s tasks child p w b stage is h = go (maps.get s.entries p) refl (subst (Agree (maps.get s.entries p)) is (h.agree p))
  where
    go : (o : Option Entry) → maps.get s.entries p ≡ o → Agree o (task.Alive b stage) → Sound (dies s p w) (put tasks p (task.Dying w)) child
    go None none agrees = absurd agrees
    go (Some e) there agrees =
        relived s tasks child p h e (with_life (with_news e None) (Dying w)) (task.Dying w) there refl tt (maps.insert s.ended p w) (λ q other. inserted_other s.ended p w q other) (there_now nat_cmp_total s.ended p w)
        (dies s p w) (died_parts s p w (ap lives there ∙ ap is_alive agrees) h.parts) (changed_twice s.entries p (λ e. with_news e None) (λ e. with_life e (Dying w)) e there) refl refl

-- A process that leaves Dying.

zombie_is : (l : Life) → is_zombie l ≡ true → (w : ℕ) × (l ≡ Zombie w)
zombie_is Alive e = absurd (cc e)
zombie_is (Dying w) e = absurd (cc e)
zombie_is (Zombie w) e = (w, refl)

orphan_same : (m : Entries) (c : ℕ) (e : Entry) → maps.get m c ≡ Some e → (z : Bool) → is_zombie e.life ≡ z → SameEntries m (orphan m c e z)
orphan_same m c e is true z = taken_same m c (subst (λ o. SameEntry o None) (sym is) (zombie_is e.life z))
orphan_same m c e is false z = put_same m c (record e { parent = 0 }) (subst (λ o. SameEntry o (Some (record e { parent = 0 }))) (sym is) refl)

either_same : (m x y : Entries) (t : Bool) → SameEntries m x → SameEntries m y → SameEntries m (cond t x y)
either_same m x y true h g = h
either_same m x y false h g = g

released_same : (p : ℕ) (m : Entries) (c : ℕ) → SameEntries m (released p m c)
unfolding released
released_same p m c = go (maps.get m c) refl
  where
    go : (o : Option Entry) → maps.get m c ≡ o → SameEntries m (released_entry m p c o)
    go None is = entries_stay m
    go (Some e) is = either_same m (orphan m c e (is_zombie e.life)) m (e.parent == p) (orphan_same m c e is (is_zombie e.life) refl) (entries_stay m)

each_same : (p : ℕ) (m : Entries) (cs : List ℕ) → SameEntries m (fold (released p) m cs)
each_same p m [] = entries_stay m
each_same p m (c ∷ cs) = entries_then m (released p m c) (fold (released p) (released p m c) cs) (released_same p m c) (each_same p (released p m c) cs)

orphaned_same : (m : Entries) (p : ℕ) → SameEntries m (orphaned m p)
unfolding orphaned
orphaned_same m p = each_same p m (filter (nat_lt 0) (maps.keys m))

-- and each is sound still
orphan_sound : (tree : Tree) (m : Entries) (c : ℕ) (e : Entry) → EntrySound tree e → EntriesSound tree m → (z : Bool) → EntriesSound tree (orphan m c e z)
orphan_sound tree m c e sound h true = taken_sound tree m c h
orphan_sound tree m c e sound h false = put_sound tree m c (record e { parent = 0 }) (record { directory = sound.directory; signals = sound.signals }) h

released_sound : (tree : Tree) (p : ℕ) (m : Entries) (c : ℕ) → EntriesSound tree m → EntriesSound tree (released p m c)
unfolding released
released_sound tree p m c h = go (maps.get m c) refl
  where
    either : (e : Entry) (t : Bool) → EntrySound tree e → EntriesSound tree (cond t (orphan m c e (is_zombie e.life)) m)
    either e true sound = orphan_sound tree m c e sound h (is_zombie e.life)
    either e false sound = h

    go : (o : Option Entry) → maps.get m c ≡ o → EntriesSound tree (released_entry m p c o)
    go None is = h
    go (Some e) is = either e (e.parent == p) (h c e is)

each_sound : (tree : Tree) (p : ℕ) (m : Entries) (cs : List ℕ) → EntriesSound tree m → EntriesSound tree (fold (released p) m cs)
each_sound tree p m [] h = h
each_sound tree p m (c ∷ cs) h = each_sound tree p (released p m c) cs (released_sound tree p m c h)

orphaned_sound : (tree : Tree) (m : Entries) (p : ℕ) → EntriesSound tree m → EntriesSound tree (orphaned m p)
unfolding orphaned
orphaned_sound tree m p h = each_sound tree p m (filter (nat_lt 0) (maps.keys m)) h

-- it leaves the table
leaves_sound : (s : Shared) (tasks : Tasks) (child p w : ℕ) → tasks p ≡ task.Dying w → Sound s tasks child → Sound (with_entries s (maps.remove s.entries p)) (put tasks p task.Gone) child
leaves_sound s tasks child p w is h = record {
  parts = left_parts s p h.parts (dying_dead (maps.get s.entries p) w (subst (Agree (maps.get s.entries p)) is (h.agree p)));
  agree = λ q. agree_at q (p == q) refl;
  words = λ q e there. h.words q e (removed nat_cmp_total s.entries p q e there);
  pids = λ q le. pids_at q (q == p) refl le;
  live = let fewer = take_len s.entries p in let live = h.live in omega (arith, fewer, live);
  last = h.last;
  pages = put_small tasks p task.Gone tt h.pages;
}
  where
    gone_at : (q : ℕ) → (q == p) ≡ true → maps.get (maps.remove s.entries p) q ≡ None
    gone_at q eq = let same : p ≡ q = grind (arith, nat_tests, eq) in subst (λ i. maps.get (maps.remove s.entries p) i ≡ None) same (gone s.entries p)

    agree_at : (q : ℕ) (t : Bool) → (p == q) ≡ t → Agree (maps.get (maps.remove s.entries p) q) (cond t task.Gone (tasks q))
    agree_at q false other = subst (λ o. Agree o (tasks q)) (sym (removed_other s.entries p q (turned_about p q other))) (h.agree q)
    agree_at q true eq = subst (λ o. Agree o task.Gone) (sym (gone_at q (grind (arith, nat_tests, eq)))) tt

    pids_at : (q : ℕ) (t : Bool) → (q == p) ≡ t → child ≤ q → maps.get (maps.remove s.entries p) q ≡ None
    pids_at q true eq le = gone_at q eq
    pids_at q false other le = removed_other s.entries p q other ∙ h.pids q le

-- or waits there as a zombie
waits_sound : (s : Shared) (tasks : Tasks) (child p w : ℕ) → tasks p ≡ task.Dying w → Sound s tasks child → Sound (with_entries s (changed s.entries p (λ e. with_life e (Zombie w)))) (put tasks p task.Gone) child
waits_sound s tasks child p w is h = go (maps.get s.entries p) refl (subst (Agree (maps.get s.entries p)) is (h.agree p))
  where
    go : (o : Option Entry) → maps.get s.entries p ≡ o → Agree o (task.Dying w) → Sound (with_entries s (changed s.entries p (λ e. with_life e (Zombie w)))) (put tasks p task.Gone) child
    go None none agrees = absurd agrees
    go (Some e) there agrees =
        relived s tasks child p h e (with_life e (Zombie w)) task.Gone there (w, refl) tt s.ended (λ q other. refl) (subst (HasWord s.ended p) agrees (h.words p e there))
        (with_entries s (changed s.entries p (λ e. with_life e (Zombie w))))
        (relived_parts s p (Zombie w) h.parts (no_slots s p h.parts (ap lives there ∙ ap is_alive agrees)) (with_entries s (changed s.entries p (λ e. with_life e (Zombie w)))) refl refl refl refl)
        (ap (changed_entry s.entries p (λ x. with_life x (Zombie w))) there) refl refl

abbrev told_in : Shared → ℕ → ℕ → ℕ → Shared
told_in s p w parent = with_entries s (changed s.entries parent (λ x. told x p w))

retired_sound : (s : Shared) (tasks : Tasks) (child p w parent : ℕ) (o : Option Entry) → tasks p ≡ task.Dying w → Sound s tasks child → Sound (with_entries s (retired_by s.entries p w parent o)) (put tasks p task.Gone) child
retired_sound s tasks child p w parent None is h = leaves_sound s tasks child p w is h
retired_sound s tasks child p w parent (Some e) is h = go (wants_no_news e)
  where
    go : (t : Bool) → Sound (with_entries s (cond t (maps.remove s.entries p) (changed (changed s.entries parent (λ x. told x p w)) p (λ x. with_life x (Zombie w))))) (put tasks p task.Gone) child
    go true = leaves_sound s tasks child p w is h
    go false =
        waits_sound (told_in s p w parent) tasks child p w is
        (kept_sound s (told_in s p w parent) tasks child (entries_keep s (changed s.entries parent (λ x. told x p w)) (changed_same s.entries parent (λ x. told x p w) (λ x. refl)) (changed_sound s.tree s.entries parent (λ x. told x p w) (λ x sound. received_sound s.tree x sigchld (cause_of_end p w) sound))) h)

pub buried_sound : (s : Shared) (tasks : Tasks) (child p w : ℕ) → tasks p ≡ task.Dying w → Sound s tasks child → Sound (buried s p w) (put tasks p task.Gone) child
unfolding buried
buried_sound s tasks child p w is h = go (maps.get s.entries p) (subst (Agree (maps.get s.entries p)) is (h.agree p))
  where
    go : (o : Option Entry) → Agree o (task.Dying w) → Sound (with_entries s (buried_entry s.entries p w o)) (put tasks p task.Gone) child
    go None agrees = absurd agrees
    go (Some e) agrees =
        let m : Entries = orphaned s.entries p in
        retired_sound (with_entries s m) tasks child p w e.parent (maps.get m e.parent) is
        (kept_sound s (with_entries s m) tasks child (entries_keep s m (orphaned_same s.entries p) (orphaned_sound s.tree s.entries p)) h)

-- A process that is born.

both : (x y : Bool) → (x && y) ≡ true → (x ≡ true) × (y ≡ true)
both true y h = (refl, h)
both false y h = absurd (cc h)

most_1 : (n : ℕ) → n ≤ max 1 n
most_1 n = le-max_right 1 n

born_live : (s : Shared) (child : ℕ) (x : Entry) → has_room s child ≡ true → maps.len (maps.insert s.entries child x) ≤ max 1 s.limits.live
born_live s child x room =
    let less : nat_lt (maps.len s.entries) s.limits.live ≡ true = (both _ _ room).0 in
    let most = most_1 s.limits.live in
    subst (λ n. n ≤ max 1 s.limits.live) (sym (maps.len-insert nat_cmp_total s.entries child x)) (go (maps.contains_key s.entries child) (grind (arith, nat_tests, less, most)))
  where
    go : (b : Bool) → maps.len s.entries + 1 ≤ max 1 s.limits.live → cond b (maps.len s.entries) (maps.len s.entries + 1) ≤ max 1 s.limits.live
    go true le = omega (arith, le)
    go false le = le

born_last : (s : Shared) (child : ℕ) → has_room s child ≡ true → suc child ≤ suc (max 1 s.limits.last_pid)
born_last s child room =
    let le : nat_le child s.limits.last_pid ≡ true = (both (nat_lt (maps.len s.entries) s.limits.live) _ room).1 in
    let most = most_1 s.limits.last_pid in
    grind (arith, nat_tests, le, most)

-- a child's descriptors are its own
AllBelow : List ℕ → Type 0
AllBelow [] = Unit {0}
AllBelow (n ∷ ns) = (n < most_fds) × AllBelow ns

range_below : (a n : ℕ) → a + n ≤ most_fds → AllBelow (range_with_len a n)
unfolding AllBelow
range_below a zero le = tt
range_below a (suc n) le = (omega (arith, le), range_below (a + 1) n (omega (arith, le)))

abbrev HasOwner : Entries → SlotMap → ℕ → Type 0
HasOwner m slots child = (q fd : ℕ) → fd < most_fds → IsSome (maps.get slots (pair q fd)) → (lives (maps.get m q) ≡ true) ⊎ (q ≡ child)

inherits_owned : (m : Entries) (slots : SlotMap) (child fd : ℕ) (o : Option Slot) → fd < most_fds → HasOwner m slots child → HasOwner m (inherited_slot slots child fd o) child
inherits_owned m slots child fd None below h q n less there = h q n less there
inherits_owned m slots child fd (Some x) below h q n less there = go (pair q n == pair child fd) refl
  where
    go : (b : Bool) → (pair q n == pair child fd) ≡ b → (lives (maps.get m q) ≡ true) ⊎ (q ≡ child)
    go true eq = let key : pair q n ≡ pair child fd = grind (arith, nat_tests, eq) in inr (omega (arith, key, below, less))
    go false other = h q n less (subst (λ (o : Option Slot). IsSome o) (inserted_other slots (pair child fd) x (pair q n) other) there)

each_owned : (m : Entries) (slots : SlotMap) (parent child : ℕ) (ns : List ℕ) → AllBelow ns → HasOwner m slots child → HasOwner m (inherited_each slots parent child ns) child
unfolding inherited_each AllBelow
each_owned m slots parent child [] below h = h
each_owned m slots parent child (fd ∷ ns) below h =
    each_owned m (inherited_slot slots child fd (maps.get slots (pair parent fd))) parent child ns below.1 (inherits_owned m slots child fd (maps.get slots (pair parent fd)) below.0 h)

inherited_owned : (m : Entries) (fds : FdTable) (parent child : ℕ) → AreOwned fds m → HasOwner m (inherited fds parent child).slots child
unfolding inherited
inherited_owned m fds parent child h = each_owned m fds.slots parent child (range_with_len 0 most_fds) (range_below 0 most_fds (omega arith)) (λ q fd below there. inl (h q fd below there))

inherited_described : (fds : FdTable) (parent child : ℕ) → (inherited fds parent child).descriptions ≡ fds.descriptions
unfolding inherited
inherited_described fds parent child = refl

born_parts : (s : Shared) (child p : ℕ) (e : Entry) → EntrySound s.tree (child_entry e p) → maps.get s.entries child ≡ None → PartsSound s → PartsSound (with_child s child p (child_entry e p))
born_parts s child p e sound vacant h = record {
  files = inherited_together s.tree s.fds h.files p child;
  reached = inherited_reached s.tree s.fds h.reached p child (no_slots s child h (ap lives vacant));
  rooted = h.rooted;
  entries = put_sound s.tree s.entries child (child_entry e p) sound h.entries;
  owned = λ q fd below there. owned q (inherited_owned s.entries s.fds p child h.owned q fd below there);
  within = record {
    nodes = h.within.nodes;
    files = h.within.files;
    contents = h.within.contents;
    offsets = λ n d is. h.within.offsets n d (subst (λ (m : DescriptionMap). maps.get m n ≡ Some d) (inherited_described s.fds p child) is);
  };
}
  where
    newborn : (q : ℕ) → q ≡ child → lives (maps.get (maps.insert s.entries child (child_entry e p)) q) ≡ true
    newborn q same = ap (λ i. lives (maps.get (maps.insert s.entries child (child_entry e p)) i)) same ∙ ap lives (there_now nat_cmp_total s.entries child (child_entry e p))

    owned : (q : ℕ) → (lives (maps.get s.entries q) ≡ true) ⊎ (q ≡ child) → lives (maps.get (maps.insert s.entries child (child_entry e p)) q) ≡ true
    owned q either = ⊎_elim (λ alive. go (q == child) refl alive) (newborn q) either
      where
        go : (b : Bool) → (q == child) ≡ b → lives (maps.get s.entries q) ≡ true → lives (maps.get (maps.insert s.entries child (child_entry e p)) q) ≡ true
        go false other alive = ap lives (inserted_other s.entries child (child_entry e p) q other) ∙ alive
        go true eq alive = newborn q (grind (arith, nat_tests, eq))

pub bears_sound : (s : Shared) (tasks : Tasks) (child p : ℕ) (e : Entry) (newborn : UserState) → EntrySound s.tree (child_entry e p) → HasFewPages newborn.memory → has_room s child ≡ true → Sound s tasks child → Sound (with_child s child p (child_entry e p)) (put tasks child (task.Alive newborn Born)) (suc child)
bears_sound s tasks child p e newborn sound small room h = record {
  parts = born_parts s child p e sound (h.pids child (omega arith)) h.parts;
  agree = λ q. agree_at q (child == q) refl;
  words = λ q x is. words_at q x (inserted nat_cmp_total s.entries child (child_entry e p) q x is);
  pids = λ q le. inserted_other s.entries child (child_entry e p) q (let above = le in grind (arith, nat_tests, above)) ∙ h.pids q (omega (arith, le));
  live = born_live s child (child_entry e p) room;
  last = born_last s child room;
  pages = put_small tasks child (task.Alive newborn Born) small h.pages;
}
  where
    agree_at : (q : ℕ) (t : Bool) → (child == q) ≡ t → Agree (maps.get (maps.insert s.entries child (child_entry e p)) q) (cond t (task.Alive newborn Born) (tasks q))
    agree_at q false other = subst (λ o. Agree o (tasks q)) (sym (inserted_other s.entries child (child_entry e p) q (turned_about child q other))) (h.agree q)
    agree_at q true eq =
        let same : child ≡ q = grind (arith, nat_tests, eq) in
        subst (λ i. Agree (maps.get (maps.insert s.entries child (child_entry e p)) i) (task.Alive newborn Born)) same
        (subst (λ o. Agree o (task.Alive newborn Born)) (sym (there_now nat_cmp_total s.entries child (child_entry e p))) refl)

    words_at : (q : ℕ) (x : Entry) → (child_entry e p ≡ x) ⊎ (maps.get s.entries q ≡ Some x) → HasWord s.ended q x.life
    words_at q x either = ⊎_elim (λ is. subst (λ (y : Entry). HasWord s.ended q y.life) is tt) (λ old. h.words q x old) either

-- Group stops.

heard_keeps : (s : Shared) (parent : ℕ) (c : Cause) (o : Option Entry) → Keeps s (with_entries s (heard_by s.entries parent c o))
heard_keeps s parent c None = keeps_all s
heard_keeps s parent c (Some e) = go (wants_no_news e)
  where
    go : (b : Bool) → Keeps s (with_entries s (cond b s.entries (changed s.entries parent (λ e. told_of e c))))
    go true = keeps_all s
    go false = changed_keeps s parent (λ e. told_of e c) (λ e. refl) (λ e sound. received_sound s.tree e sigchld c sound)

-- a parent has news of a process
news_keeps : (s : Shared) (p parent : ℕ) (x : Option News) (c : Cause) →
    let m = changed s.entries p (λ e. with_news e x) in
    Keeps s (with_entries s (heard_by m parent c (maps.get m parent)))
news_keeps s p parent x c =
    let t : Shared = with_entries s (changed s.entries p (λ e. with_news e x)) in
    keeps_then s t (with_entries t (heard_by t.entries parent c (maps.get t.entries parent)))
    (changed_keeps s p (λ e. with_news e x) (λ e. refl) (λ e sound. record { directory = sound.directory; signals = sound.signals }))
    (heard_keeps t parent c (maps.get t.entries parent))

stop_keeps : (s : Shared) (p : ℕ) (signal : Signal) (o : Option Entry) → Keeps s (with_entries s (stop_entry s.entries p signal o))
stop_keeps s p signal None = keeps_all s
stop_keeps s p signal (Some e) = news_keeps s p e.parent (Some (news.Stopped signal)) (cause.Stopped p signal.number)

pub stopped_keeps : (s : Shared) (p : ℕ) (signal : Signal) → Keeps s (stopped s p signal)
unfolding stopped
stopped_keeps s p signal = stop_keeps s p signal (maps.get s.entries p)

pub settles_keep : (s : Shared) (p : ℕ) → Keeps s (settles s p)
settles_keep s p = changed_keeps s p (λ e. with_signals e (settled e.signals)) (λ e. refl) (λ e sound. signals_sound s.tree e (settled e.signals) (settled_signals e.signals sound.signals) sound)

wake_keeps : (s : Shared) (p : ℕ) (o : Option Entry) → Keeps s (with_entries s (wake_entry s.entries p o))
wake_keeps s p None = keeps_all s
wake_keeps s p (Some e) =
    let t : Shared = settles s p in
    keeps_then s t (with_entries s (wake_entry s.entries p (Some e))) (settles_keep s p) (news_keeps t p e.parent (Some news.Continued) (cause.Continued p))

pub woken_keeps : (s : Shared) (p : ℕ) → Keeps s (woken s p)
unfolding woken
woken_keeps s p = wake_keeps s p (maps.get s.entries p)
