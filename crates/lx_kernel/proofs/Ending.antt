-- The end of a process, its burial, its stop and its waking leave each other process blocked that was.
use Rattle.std.proofs.Common.{◌≡◌, ℕ, Bool, true, false, cond, List, [], ◌∷◌, Option, Some, None, refl, ap, sym, subst, ◌∙◌, arith}
use Rattle.std.specs.Prelude.{◌==◌, ◌||◌, ◌<◌, nat_lt, fold, if◌then◌else◌}
use Rattle.std.specs.List.{filter, range_with_len}
use Rattle.std.specs.FinMap as maps
use Rattle.lx_model.specs.declared.event.PtraceEvent.TheVariants.{Plain}
use Rattle.lx_abi.specs.declared.log.Cause.{Cause}
use Rattle.lx_abi.specs.declared.log.Cause.TheVariants as cause
use Rattle.lx_abi.specs.declared.signal.Signal.{Signal}
use Rattle.lx_sig.specs.Pending.{settled}
use Rattle.lx_proc.specs.declared.state.Entry.{Entry}
use Rattle.lx_proc.specs.declared.state.News.TheVariants as news
use Rattle.lx_proc.specs.declared.state.Shared.{Shared}
use Rattle.lx_proc.specs.State.{Entries, changed, with_entries, with_news, with_signals}
use Rattle.lx_files.specs.declared.tree.Tree.{Tree}
use Rattle.lx_open.specs.Kinds.{SlotMap}
use Rattle.lx_open.specs.Opens.{pair, slot, description, is_named, has_readers, has_writers}
use Rattle.lx_open.specs.Releases.{Held, AreEndsKept, description_released, description_dropped, object_released, slot_closed, closed, closed_if_meant, closed_each, all_closed, is_meant}
use Rattle.lx_open.specs.declared.description.Description.{Description}
use Rattle.lx_open.specs.declared.description.Object.{Object}
use Rattle.lx_open.specs.declared.description.Object.TheVariants.{Input, Console, ReadEnd, WriteEnd, Opened}
use Rattle.lx_open.specs.declared.description.Slot.{Slot}
use Rattle.lx_open.specs.declared.fd_table.FdTable.{FdTable}
use Rattle.lx_proc.specs.declared.state.Life.TheVariants.{Zombie}
use Rattle.lx_pcalls.specs.Ends.{dies, buried, buried_entry, orphan, orphaned, released, released_entry, retired_by, told, told_of, wants_no_news, with_life}
use Rattle.lx_pcalls.specs.Stops.{heard_by, stopped as stops, stop_entry, wake_entry, woken}
use Rattle.lx_proc.specs.Families.{is_zombie}
use Rattle.lx_kernel.specs.Pipes.{pipe_at}
use Rattle.lx_kernel.specs.Waking.{Calms, told_by}
use Rattle.lx_kernel.proofs.Awaiting.{awaits_on, died_spared, buried_spared, stopped_spared, woken_spared}
use Rattle.lx_kernel.proofs.Blocked.{is_quiet, other_pair, blocked_on, waits_same, waits_alike, pipe_alike, entry_other, quiet_same, quiet_left, quiet_orphan}
use Rattle.lx_kernel.proofs.Placed.{either, get_put, other_put, other_left}

-- its descriptors are no other's
module _ (p q fd : ℕ) (ne : q ≡ p → ⊥) (small : fd < 256) where
  released_slots : (tree : Tree) (fds : FdTable) (n : ℕ) → (description_released tree fds n).fds.slots ≡ fds.slots
  unfolding description_released
  released_slots tree fds n = named (is_named fds n) (description fds n)
    where
      pipe_kept : (t : FdTable) (b : Bool) (pipe : ℕ) → (if b then t else record t { pipes = maps.remove t.pipes pipe }).slots ≡ t.slots
      pipe_kept t true pipe = refl
      pipe_kept t false pipe = refl

      object_kept : (t : FdTable) (object : Object) → (object_released tree t object).fds.slots ≡ t.slots
      object_kept t Input = refl
      object_kept t Console = refl
      object_kept t (ReadEnd pipe) = pipe_kept t (has_readers t pipe || has_writers t pipe) pipe
      object_kept t (WriteEnd pipe) = pipe_kept t (has_readers t pipe || has_writers t pipe) pipe
      object_kept t (Opened node) = refl

      dropped : (o : Option Description) → (description_dropped tree fds n o).fds.slots ≡ fds.slots
      dropped None = refl
      dropped (Some d) = object_kept (record fds { descriptions = maps.remove fds.descriptions n }) d.object

      named : (b : Bool) (o : Option Description) → (if b then record { tree = tree; fds = fds } else description_dropped tree fds n o).fds.slots ≡ fds.slots
      named true o = refl
      named false o = dropped o

  abbrev At : Held → Option Slot
  At h = maps.get h.fds.slots (pair q fd)

  closed_slot : (h : Held) (n : ℕ) (b : Bool) → nat_lt n 256 ≡ b → (o : Option Slot) → At (slot_closed h.tree h.fds (pair p n) (cond b o None)) ≡ At h
  closed_slot h n true e None = refl
  closed_slot h n true e (Some named) =
      ap (λ (slots : SlotMap). maps.get slots (pair q fd)) (released_slots h.tree (record h.fds { slots = maps.remove h.fds.slots (pair p n) }) named.description)
      ∙ other_left h.fds.slots (pair p n) (pair q fd) (other_pair p q fd ne small n (let lt : n < 256 = grind (arith) in lt))
  closed_slot h n false e o = refl

  closed_other : (h : Held) (n : ℕ) → At (closed h.tree h.fds p n) ≡ At h
  unfolding closed
  closed_other h n = closed_slot h n (nat_lt n 256) refl (maps.get h.fds.slots (pair p n))

  if_other : (h : Held) (n : ℕ) (b : Bool) → At (if b then closed h.tree h.fds p n else h) ≡ At h
  if_other h n true = closed_other h n
  if_other h n false = refl

  each_closed : (h : Held) (ns : List ℕ) → At (closed_each false h p ns) ≡ At h
  unfolding closed_each
  each_closed h [] = refl
  each_closed h (n ∷ ns) = each_closed (closed_if_meant false h p n) ns ∙ if_other h n (is_meant false (slot h.fds p n))

all_other : (tree : Tree) (fds : FdTable) (p q fd : ℕ) → (q ≡ p → ⊥) → (b : Bool) → nat_lt fd 256 ≡ b
    → cond b (maps.get (all_closed tree fds p).fds.slots (pair q fd)) None ≡ cond b (maps.get fds.slots (pair q fd)) None
unfolding all_closed
all_other tree fds p q fd ne true e = each_closed p q fd ne (let lt : fd < 256 = grind (arith) in lt) (record { tree = tree; fds = fds }) (range_with_len 0 256)
all_other tree fds p q fd ne false e = refl

-- where each description stays, each other process stays blocked
pub end_calm : (s : Shared) (child p w : ℕ) → AreEndsKept s.fds (dies s p w).fds → Calms s (dies s p w) child p p Plain
end_calm s child p w kept =
    let t : Shared = dies s p w in
    let same : t.fds ≡ record s.fds { slots = t.fds.slots } = λ i. record { slots = t.fds.slots; descriptions = kept.0 i; pipes = kept.1 i } in
    record {
      blocked = λ q up ne still unborn task h.
          blocked_on s t q
          (waits_alike s t q t.fds.slots same (λ fd. all_other s.tree s.fds p q fd ne (nat_lt fd 256) refl))
          (awaits_on s t q (died_spared s.entries p q w))
          (quiet_same (maps.get s.entries q) (maps.get t.entries q)
          (entry_other (changed s.entries p (λ e. with_news e None)) p q _ (maps.get (changed s.entries p (λ e. with_news e None)) p) ne ∙ entry_other s.entries p q _ (maps.get s.entries p) ne)) task h;
      pipes = λ q fd ne unborn. ap (λ (f : FdTable). pipe_at f q fd) same ∙ pipe_alike s.fds t.fds.slots q fd (all_other s.tree s.fds p q fd ne (nat_lt fd 256) refl);
    }

-- Burial

module _ (stopped : Bool) where
  abbrev Quiet : Entries → ℕ → Type 0
  Quiet m q = is_quiet stopped (maps.get m q) ≡ true

  adopted_quiet : (m : Entries) (n q : ℕ) (e : Entry) (b : Bool) → maps.get m n ≡ Some e → Quiet m q → Quiet (orphan m n e b) q
  adopted_quiet m n q e true there h = quiet_left m n q stopped h
  adopted_quiet m n q e false there h = either q n (Quiet (maps.insert m n (record e { parent = 0 })) q) (q == n) refl
      (λ same. subst (λ x. Quiet (maps.insert m n (record e { parent = 0 })) x) (sym same)
      (ap (is_quiet stopped) (get_put m n (record e { parent = 0 })) ∙ quiet_orphan e stopped ∙ sym (ap (is_quiet stopped) there) ∙ ap (λ x. is_quiet stopped (maps.get m x)) (sym same) ∙ h))
      (λ ne. quiet_same (maps.get m q) (maps.get (maps.insert m n (record e { parent = 0 })) q) (other_put m n q ne (record e { parent = 0 })) stopped h)

  mine_quiet : (m : Entries) (n q : ℕ) (e : Entry) (b : Bool) → maps.get m n ≡ Some e → Quiet m q → Quiet (if b then orphan m n e (is_zombie e.life) else m) q
  mine_quiet m n q e true there h = adopted_quiet m n q e (is_zombie e.life) there h
  mine_quiet m n q e false there h = h

  entry_quiet : (m : Entries) (p n q : ℕ) (o : Option Entry) → maps.get m n ≡ o → Quiet m q → Quiet (released_entry m p n o) q
  entry_quiet m p n q None there h = h
  entry_quiet m p n q (Some e) there h = mine_quiet m n q e (e.parent == p) there h

  released_quiet : (m : Entries) (p n q : ℕ) → Quiet m q → Quiet (released p m n) q
  unfolding released
  released_quiet m p n q h = entry_quiet m p n q (maps.get m n) refl h

  each_quiet : (m : Entries) (p q : ℕ) (ns : List ℕ) → Quiet m q → Quiet (fold (released p) m ns) q
  each_quiet m p q [] h = h
  each_quiet m p q (n ∷ ns) h = each_quiet (released p m n) p q ns (released_quiet m p n q h)

  told_quiet : (m : Entries) (p w parent q : ℕ) (b : Bool) → (q ≡ p → ⊥) → (q ≡ parent → ⊥) → Quiet m q
      → Quiet (if b then maps.remove m p else changed (changed m parent (λ e. told e p w)) p (λ e. with_life e (Zombie w))) q
  told_quiet m p w parent q true ne other h = quiet_left m p q stopped h
  told_quiet m p w parent q false ne other h =
      let told_parent = changed m parent (λ e. told e p w) in
      quiet_same (maps.get m q) (maps.get (changed told_parent p (λ e. with_life e (Zombie w))) q)
      (entry_other told_parent p q (λ e. with_life e (Zombie w)) (maps.get told_parent p) ne ∙ entry_other m parent q (λ e. told e p w) (maps.get m parent) other) stopped h

  retired_quiet : (m : Entries) (p w parent q : ℕ) (o : Option Entry) → (q ≡ p → ⊥) → (q ≡ parent → ⊥) → Quiet m q → Quiet (retired_by m p w parent o) q
  retired_quiet m p w parent q None ne other h = quiet_left m p q stopped h
  retired_quiet m p w parent q (Some e) ne other h = told_quiet m p w parent q (wants_no_news e) ne other h

  buried_quiet : (m : Entries) (p w q : ℕ) (o : Option Entry) → (q ≡ p → ⊥) → (q ≡ told_by p o → ⊥) → Quiet m q → Quiet (buried_entry m p w o) q
  unfolding orphaned
  buried_quiet m p w q None ne other h = h
  buried_quiet m p w q (Some e) ne other h =
      let left = orphaned m p in
      retired_quiet left p w e.parent q (maps.get left e.parent) ne other (each_quiet m p q (filter (nat_lt 0) (maps.keys m)) h)

-- who isn't told of a burial stays blocked
pub burial_calm : (s : Shared) (child p w : ℕ) → Calms s (buried s p w) child p (told_by p (maps.get s.entries p)) Plain
unfolding buried
burial_calm s child p w = record {
  blocked = λ q up ne other unborn task h.
      let t : Shared = with_entries s (buried_entry s.entries p w (maps.get s.entries p)) in
      blocked_on s t q (waits_same s t q refl)
      (awaits_on s t q (buried_spared p q ne up s.entries w (maps.get s.entries p) refl other))
      (λ stopped. buried_quiet stopped s.entries p w q (maps.get s.entries p) ne other) task h;
  pipes = λ q fd ne unborn. refl;
}

-- Group stops

module _ (m : Entries) (q : ℕ) where
  heard_if : (parent : ℕ) (c : Cause) (b : Bool) → (q ≡ parent → ⊥) → maps.get (if b then m else changed m parent (λ e. told_of e c)) q ≡ maps.get m q
  heard_if parent c true other = refl
  heard_if parent c false other = entry_other m parent q (λ e. told_of e c) (maps.get m parent) other

  heard_other : (parent : ℕ) (c : Cause) (o : Option Entry) → (q ≡ parent → ⊥) → maps.get (heard_by m parent c o) q ≡ maps.get m q
  heard_other parent c None other = refl
  heard_other parent c (Some e) other = heard_if parent c (wants_no_news e) other

-- the entry of one that isn't told stays as it is
stopped_other : (m : Entries) (p q : ℕ) (signal : Signal) (o : Option Entry) → (q ≡ p → ⊥) → (q ≡ told_by p o → ⊥) → maps.get (stop_entry m p signal o) q ≡ maps.get m q
stopped_other m p q signal None ne other = refl
stopped_other m p q signal (Some e) ne other =
    let at : Entries = changed m p (λ e. with_news e (Some (news.Stopped signal))) in
    heard_other at q e.parent (cause.Stopped p signal.number) (maps.get at e.parent) other
    ∙ entry_other m p q (λ e. with_news e (Some (news.Stopped signal))) (maps.get m p) ne

woken_other : (m : Entries) (p q : ℕ) (o : Option Entry) → (q ≡ p → ⊥) → (q ≡ told_by p o → ⊥) → maps.get (wake_entry m p o) q ≡ maps.get m q
woken_other m p q None ne other = refl
woken_other m p q (Some e) ne other =
    let free : Entries = changed m p (λ e. with_signals e (settled e.signals)) in
    let at : Entries = changed free p (λ e. with_news e (Some news.Continued)) in
    heard_other at q e.parent (cause.Continued p) (maps.get at e.parent) other
    ∙ entry_other free p q (λ e. with_news e (Some news.Continued)) (maps.get free p) ne
    ∙ entry_other m p q (λ e. with_signals e (settled e.signals)) (maps.get m p) ne

-- who isn't told of a stop, or of its end, stays blocked
pub stop_calm : (s : Shared) (child p : ℕ) (signal : Signal) → Calms s (stops s p signal) child p (told_by p (maps.get s.entries p)) Plain
unfolding stops
stop_calm s child p signal = record {
  blocked = λ q up ne other unborn task h.
      let t : Shared = with_entries s (stop_entry s.entries p signal (maps.get s.entries p)) in
      blocked_on s t q (waits_same s t q refl)
      (awaits_on s t q (stopped_spared s.entries p q signal (maps.get s.entries p) refl other))
      (quiet_same (maps.get s.entries q) (maps.get t.entries q) (stopped_other s.entries p q signal (maps.get s.entries p) ne other)) task h;
  pipes = λ q fd ne unborn. refl;
}

pub wake_calm : (s : Shared) (child p : ℕ) → Calms s (woken s p) child p (told_by p (maps.get s.entries p)) Plain
unfolding woken
wake_calm s child p = record {
  blocked = λ q up ne other unborn task h.
      let t : Shared = with_entries s (wake_entry s.entries p (maps.get s.entries p)) in
      blocked_on s t q (waits_same s t q refl)
      (awaits_on s t q (woken_spared s.entries p q (maps.get s.entries p) refl other))
      (quiet_same (maps.get s.entries q) (maps.get t.entries q) (woken_other s.entries p q (maps.get s.entries p) ne other)) task h;
  pipes = λ q fd ne unborn. refl;
}
