-- Entries that stay as they are, but for what changes while their processes live on, and zombies that leave.
use Rattle.std.proofs.Common.{◌≡◌, ℕ, ◌+◌, ◌-◌, ◌≤◌, ⊎_elim, Bool, true, false, cond, Option, Some, None, refl, ap, sym, subst, ◌∙◌, arith}
use Rattle.std.proofs.lemmas.Bool.Decides.{nat_tests}
use Rattle.std.specs.Prelude.{◌==◌, is_some}
use Rattle.std.specs.Cmp.{nat_cmp_total}
use Rattle.std.specs.FinMap as maps
use Rattle.lx_abi.specs.declared.log.Cause.{Cause}
use Rattle.lx_abi.specs.declared.signal.Signal.{Signal}
use Rattle.lx_sig.specs.Pending.{with_pending}
use Rattle.lx_sig.specs.declared.state.Signals.{Signals}
use Rattle.lx_files.specs.declared.tree.Tree.{Tree}
use Rattle.lx_proc.specs.declared.state.Entry.{Entry}
use Rattle.lx_proc.specs.declared.state.Life.TheVariants.{Zombie}
use Rattle.lx_proc.specs.State.{Entries, changed, changed_entry, with_signals}
use Rattle.lx_proc.specs.Sending.{receives}
use Rattle.lx_sound.specs.Masks.{AreSignals}
use Rattle.lx_sound.specs.Parts.{EntrySound, EntriesSound}
use Rattle.lx_sound.proofs.Masks.{pending_signals}
use Rattle.lx_sound.proofs.Maps.{there_now, inserted, inserted_other, removed, removed_other}

-- an entry stays, or is a zombie's and leaves the table
abbrev pub SameEntry : Option Entry → Option Entry → Type 0
SameEntry (Some e) (Some e') = e'.life ≡ e.life
SameEntry (Some e) None = (w : ℕ) × (e.life ≡ Zombie w)
SameEntry None (Some e') = ⊥
SameEntry None None = Unit {0}

-- so do all, and there are no more of them
pub record SameEntries (m m' : Entries) : Type 0 where
  pub each : (q : ℕ) → SameEntry (maps.get m q) (maps.get m' q)
  pub fewer : maps.len m' ≤ maps.len m

entry_itself : (o : Option Entry) → SameEntry o o
entry_itself None = tt
entry_itself (Some e) = refl

pub entries_stay : (m : Entries) → SameEntries m m
entries_stay m = record { each = λ q. entry_itself (maps.get m q); fewer = omega arith }

then_same : (a b c : Option Entry) → SameEntry a b → SameEntry b c → SameEntry a c
then_same None None None h g = tt
then_same None None (Some z) h g = absurd g
then_same None (Some y) c h g = absurd h
then_same (Some x) None None h g = h
then_same (Some x) None (Some z) h g = absurd g
then_same (Some x) (Some y) None h g = (g.0, sym h ∙ g.1)
then_same (Some x) (Some y) (Some z) h g = g ∙ h

pub entries_then : (a b c : Entries) → SameEntries a b → SameEntries b c → SameEntries a c
entries_then a b c h g = record {
  each = λ q. then_same (maps.get a q) (maps.get b q) (maps.get c q) (h.each q) (g.each q);
  fewer = let one = h.fewer in let two = g.fewer in omega (arith, one, two);
}

-- the table with one entry put in, or taken out
there_before : (o : Option Entry) (x : Entry) → SameEntry o (Some x) → is_some o ≡ true
there_before None x h = absurd h
there_before (Some e) x h = refl

pub put_len : (m : Entries) (k : ℕ) (x : Entry) → is_some (maps.get m k) ≡ true → maps.len (maps.insert m k x) ≡ maps.len m
put_len m k x there = maps.len-insert nat_cmp_total m k x ∙ ap (λ b. cond b (maps.len m) (maps.len m + 1)) there

pub take_len : (m : Entries) (k : ℕ) → maps.len (maps.remove m k) ≤ maps.len m
take_len m k = subst (λ n. n ≤ maps.len m) (sym (maps.len-remove nat_cmp_total m k)) (go (maps.contains_key m k))
  where
    go : (b : Bool) → cond b (maps.len m - 1) (maps.len m) ≤ maps.len m
    go true = omega arith
    go false = omega arith

pub put_same : (m : Entries) (k : ℕ) (x : Entry) → SameEntry (maps.get m k) (Some x) → SameEntries m (maps.insert m k x)
put_same m k x h = record { each = λ q. go q (q == k) refl; fewer = let same = put_len m k x (there_before (maps.get m k) x h) in omega (arith, same) }
  where
    go : (q : ℕ) (b : Bool) → (q == k) ≡ b → SameEntry (maps.get m q) (maps.get (maps.insert m k x) q)
    go q false other = subst (λ o. SameEntry (maps.get m q) o) (sym (inserted_other m k x q other)) (entry_itself (maps.get m q))
    go q true eq =
        let is : k ≡ q = grind (arith, nat_tests, eq) in
        subst (λ i. SameEntry (maps.get m i) (maps.get (maps.insert m k x) i)) is (subst (λ o. SameEntry (maps.get m k) o) (sym (there_now nat_cmp_total m k x)) h)

pub gone : (m : Entries) (k : ℕ) → maps.get (maps.remove m k) k ≡ None
gone m k = maps.get-remove nat_cmp_total m k k ∙ grind (arith, nat_tests)

pub taken_same : (m : Entries) (k : ℕ) → SameEntry (maps.get m k) None → SameEntries m (maps.remove m k)
taken_same m k h = record { each = λ q. go q (q == k) refl; fewer = take_len m k }
  where
    go : (q : ℕ) (b : Bool) → (q == k) ≡ b → SameEntry (maps.get m q) (maps.get (maps.remove m k) q)
    go q false other = subst (λ o. SameEntry (maps.get m q) o) (sym (removed_other m k q other)) (entry_itself (maps.get m q))
    go q true eq =
        let is : k ≡ q = grind (arith, nat_tests, eq) in
        subst (λ i. SameEntry (maps.get m i) (maps.get (maps.remove m k) i)) is (subst (λ o. SameEntry (maps.get m k) o) (sym (gone m k)) h)

changed_at : (m : Entries) (k : ℕ) (f : Entry → Entry) → ((e : Entry) → (f e).life ≡ e.life) → (o : Option Entry) → maps.get m k ≡ o → SameEntries m (changed_entry m k f o)
changed_at m k f keeps None is = entries_stay m
changed_at m k f keeps (Some e) is = put_same m k (f e) (subst (λ o. SameEntry o (Some (f e))) (sym is) (keeps e))

pub changed_same : (m : Entries) (k : ℕ) (f : Entry → Entry) → ((e : Entry) → (f e).life ≡ e.life) → SameEntries m (changed m k f)
changed_same m k f keeps = changed_at m k f keeps (maps.get m k) refl

-- each entry is sound

module _ (tree : Tree) (m : Entries) (k : ℕ) where
  pub put_sound : (x : Entry) → EntrySound tree x → EntriesSound tree m → EntriesSound tree (maps.insert m k x)
  put_sound x sound h q e is = ⊎_elim (λ same. subst (EntrySound tree) same sound) (λ old. h q e old) (inserted nat_cmp_total m k x q e is)

  pub taken_sound : EntriesSound tree m → EntriesSound tree (maps.remove m k)
  taken_sound h q e is = h q e (removed nat_cmp_total m k q e is)

  changed_sound_at : (f : Entry → Entry) → ((e : Entry) → EntrySound tree e → EntrySound tree (f e)) → EntriesSound tree m → (o : Option Entry) → maps.get m k ≡ o → EntriesSound tree (changed_entry m k f o)
  changed_sound_at f keeps h None is = h
  changed_sound_at f keeps h (Some e) is = put_sound (f e) (keeps e (h k e is)) h

  pub changed_sound : (f : Entry → Entry) → ((e : Entry) → EntrySound tree e → EntrySound tree (f e)) → EntriesSound tree m → EntriesSound tree (changed m k f)
  changed_sound f keeps h = changed_sound_at f keeps h (maps.get m k) refl

-- other signals

pub signals_sound : (tree : Tree) (e : Entry) (g : Signals) → AreSignals g → EntrySound tree e → EntrySound tree (with_signals e g)
signals_sound tree e g within h = record { directory = h.directory; signals = within }

pub received_sound : (tree : Tree) (e : Entry) (signal : Signal) (cause : Cause) → EntrySound tree e → EntrySound tree (receives e signal cause)
received_sound tree e signal cause h = signals_sound tree e (with_pending e.signals signal cause) (pending_signals e.signals h.signals signal cause) h
