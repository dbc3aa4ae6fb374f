-- The manual pages' sentences, from the definitions.
use Rattle.std.proofs.Common.{◌≡◌, ℕ, zero, suc, ◌<◌, ◌+◌, Bool, true, false, cond, List, [], ◌∷◌, ◌++◌, length, Option, Some, None, refl, ap, sym, subst, ◌∙◌, arith}
use Rattle.std.proofs.lemmas.Bool.Decides.{nat_tests}
use Rattle.std.specs.Prelude.{◌==◌, ◌&&◌, ◌||◌, ◌^◌, nat_lt, take, drop, find, is_some, is_none, not}
use Rattle.std.specs.List.{range_with_len}
use Rattle.std.specs.Option.{option_map, option_or, unwrap_or}
use Rattle.std.specs.Cmp.{nat_cmp_total, tied_itself}
use Rattle.std.specs.Ordering.{nat_cmp, is_eq}
use Rattle.std.specs.FinMap as maps
use Rattle.lx_abi.specs.Errnos.{ebadf, efault, einval, emfile, esrch}
use Rattle.lx_abi.specs.Limits.{most_fds, pipe_size}
use Rattle.lx_abi.specs.Signals.{is_signal, signal_numbered}
use Rattle.lx_abi.specs.declared.signal.Signal.{Signal}
use Rattle.lx_model.specs.Machine.{Refused, Returns, Blocks}
use Rattle.rv_mem.specs.Memory.{first_fault, written}
use Rattle.rv_mem.specs.declared.rights.Access.TheVariants as access
use Rattle.lx_sig.specs.declared.kill.Aim.{Aim}
use Rattle.lx_files.specs.Trees.{content, has_path, without_node, without_path}
use Rattle.lx_open.specs.Opens.{free, has_readers, has_writers, held, is_open_node, pair, pipe_changed, slot, with_held, with_slot}
use Rattle.lx_open.specs.Kinds.{SlotMap}
use Rattle.lx_open.specs.Releases.{unlinked, unlinked_node}
use Rattle.lx_open.specs.declared.description.Slot.{Slot}
use Rattle.lx_open.specs.declared.fd_table.FdTable.{FdTable}
use Rattle.lx_proc.specs.Answers.{Answers, given, is_blocked, low_argument}
use Rattle.lx_proc.specs.Families.{is_zombie}
use Rattle.lx_proc.specs.State.{changed, changed_entry, with_fds, with_memory, with_news}
use Rattle.lx_proc.specs.declared.state.Entry.{Entry}
use Rattle.lx_proc.specs.declared.state.Life.{Life}
use Rattle.lx_proc.specs.declared.state.Life.TheVariants.{Alive, Dying, Zombie}
use Rattle.lx_proc.specs.declared.state.Shared.{Shared}
use Rattle.lx_proc.specs.declared.state.UserState.{UserState}
use Rattle.lx_fcalls.specs.Dup.{dup}
use Rattle.lx_fcalls.specs.Read.{waits}
use Rattle.lx_fcalls.specs.Write.{breaks_pipe, start_of, writes_at}
use Rattle.lx_pcalls.specs.Kill.{kill, sends}
use Rattle.lx_pcalls.specs.Wait4.{told_entry, word_in, zombie_word}
use Rattle.call_laws.specs.Manual.{AppendsAtTheEnd, AsksOnly, CopiesShareTheOffset, EndsWithItsWriters, MaskComesBack, OpenFilesLiveOn, ReadsTakeTheFront, ToldOnce, WritesGoBehind, described}

there_now : {X : Type 0} (m : maps.FinMap nat_cmp X) (k : ℕ) (v : X) → maps.get (maps.insert m k v) k ≡ Some v
there_now m k v = maps.get-insert nat_cmp_total m k v k ∙ ap (λ b. cond b (Some v) (maps.get m k)) (ap is_eq (tied_itself nat_cmp_total k))

gone_now : {X : Type 0} (m : maps.FinMap nat_cmp X) (k : ℕ) → maps.get (maps.remove m k) k ≡ None
gone_now m k = maps.get-remove nat_cmp_total m k k ∙ ap (λ b. cond b None (maps.get m k)) (ap is_eq (tied_itself nat_cmp_total k))

-- two answers that return are one

same_shared : (t u : Shared) (c d : UserState) (x y : ℕ) → ◌≡◌ {A = Answers} (Returns t c x) (Returns u d y) → u ≡ t
same_shared t u c d x y is = cc is

same_user : (t u : Shared) (c d : UserState) (x y : ℕ) → ◌≡◌ {A = Answers} (Returns t c x) (Returns u d y) → d ≡ c
same_user t u c d x y is = cc is

same_result : (t u : Shared) (c d : UserState) (x y : ℕ) → ◌≡◌ {A = Answers} (Returns t c x) (Returns u d y) → y ≡ x
same_result t u c d x y is = cc is

-- pipes

held_after : (fds : FdTable) (pipe : ℕ) (f : List ℕ → List ℕ) (there : List ℕ) → maps.get fds.pipes pipe ≡ Some there → held (with_held fds pipe f) pipe ≡ f there
held_after fds pipe f there is =
    ap (λ o. held (pipe_changed fds pipe f o) pipe) is ∙ ap (λ o. unwrap_or o []) (there_now fds.pipes pipe (f there))

held_is : (fds : FdTable) (pipe : ℕ) (there : List ℕ) → maps.get fds.pipes pipe ≡ Some there → held fds pipe ≡ there
held_is fds pipe there is = ap (λ o. unwrap_or o []) is

pub writes_go_behind : WritesGoBehind
writes_go_behind s p b pipe there bytes t c x is readers did = go (has_readers s.fds pipe) readers (nat_lt pipe_size (length (held s.fds pipe) + length bytes)) (breaks_pipe s p b) did
  where
    go : (r : Bool) → r ≡ true → (full : Bool) (broken : Answers) → cond (not r) broken (cond full Blocks (Returns (with_fds s (with_held s.fds pipe (λ old. old ++ bytes))) b (length bytes))) ≡ Returns t c x → held t.fds pipe ≡ there ++ bytes
    go false h full broken did = absurd (cc h)
    go true h true broken did = absurd (cc did)
    go true h false broken did =
        ap (λ (u : Shared). held u.fds pipe) (same_shared _ t _ c _ x did)
        ∙ held_after s.fds pipe (λ old. old ++ bytes) there is

pub reads_take_the_front : ReadsTakeTheFront
reads_take_the_front s b pipe at n there t c x is did =
    subst (λ (l : List ℕ). (c.memory ≡ written b.memory at (take n l)) × (x ≡ length (take n l)) × (held t.fds pipe ≡ drop n there)) (held_is s.fds pipe there is)
    (go (waits s.fds pipe n) (is_some (first_fault access.Write b.memory at (length (take n (held s.fds pipe))))) did)
  where
    go : (w f : Bool) → cond w Blocks (cond f (Refused efault) (Returns (with_fds s (with_held s.fds pipe (drop n))) (with_memory b (written b.memory at (take n (held s.fds pipe)))) (length (take n (held s.fds pipe))))) ≡ Returns t c x
        → (c.memory ≡ written b.memory at (take n (held s.fds pipe))) × (x ≡ length (take n (held s.fds pipe))) × (held t.fds pipe ≡ drop n there)
    go true f did = absurd (cc did)
    go false true did = absurd (cc did)
    go false false did = (
      ap (λ (u : UserState). u.memory) (same_user _ t _ c _ x did),
      same_result _ t _ c _ x did,
      ap (λ (u : Shared). held u.fds pipe) (same_shared _ t _ c _ x did) ∙ held_after s.fds pipe (drop n) there is,
    )

nobody_waits : (a b c : Bool) → c ≡ false → (a && b && c) ≡ false
nobody_waits true true c h = h
nobody_waits true false c h = refl
nobody_waits false b c h = refl

taken_none : (n : ℕ) (l : List ℕ) → l ≡ [] → length (take n l) ≡ 0
taken_none zero l empty = refl
taken_none (suc n) [] empty = refl
taken_none (suc n) (x ∷ l) empty = absurd (cc empty)

pub ends_with_its_writers : EndsWithItsWriters
ends_with_its_writers s b pipe at n empty nobody = (
  go (waits s.fds pipe n) (nobody_waits (length (held s.fds pipe) == 0) (nat_lt 0 n) (has_writers s.fds pipe) nobody) (is_some (first_fault access.Write b.memory at (length (take n (held s.fds pipe))))),
  λ t c x did. got (waits s.fds pipe n) (is_some (first_fault access.Write b.memory at (length (take n (held s.fds pipe))))) t c x did,
)
  where
    go : (w : Bool) → w ≡ false → (f : Bool) → is_blocked (cond w Blocks (cond f (Refused efault) (Returns (with_fds s (with_held s.fds pipe (drop n))) (with_memory b (written b.memory at (take n (held s.fds pipe)))) (length (take n (held s.fds pipe)))))) ≡ false
    go true h f = absurd (cc h)
    go false h true = refl
    go false h false = refl

    got : (w f : Bool) (t : Shared) (c : UserState) (x : ℕ) → cond w Blocks (cond f (Refused efault) (Returns (with_fds s (with_held s.fds pipe (drop n))) (with_memory b (written b.memory at (take n (held s.fds pipe)))) (length (take n (held s.fds pipe))))) ≡ Returns t c x → x ≡ 0
    got true f t c x did = absurd (cc did)
    got false true t c x did = absurd (cc did)
    got false false t c x did = same_result _ t _ c _ x did ∙ taken_none n (held s.fds pipe) empty

-- descriptors

found_here : (test : ℕ → Bool) (a n k : ℕ) (t : Bool) → (find test (range_with_len (a + 1) n) ≡ Some k → k < (a + 1) + n) → cond t (Some a) (find test (range_with_len (a + 1) n)) ≡ Some k → k < a + suc n
found_here test a n k true later e = let same : a ≡ k = cc e in omega (arith, same)
found_here test a n k false later e = let less = later e in omega (arith, less)

found_below : (test : ℕ → Bool) (a n k : ℕ) → find test (range_with_len a n) ≡ Some k → k < a + n
found_below test a zero k is = absurd (cc is)
found_below test a (suc n) k is = found_here test a n k (test a) (found_below test (a + 1) n k) is

free_below : (slots : SlotMap) (p fd : ℕ) → free slots p ≡ Some fd → nat_lt fd most_fds ≡ true
unfolding free
free_below slots p fd is = let less = found_below (λ fd. is_none (maps.get slots (pair p fd))) 0 most_fds fd is in grind (arith, nat_tests, less)

copied : (fds : FdTable) (p fd : ℕ) (copy : Slot) → nat_lt fd most_fds ≡ true → slot (with_slot fds p fd copy) p fd ≡ Some copy
copied fds p fd copy below = ap (λ b. cond b (maps.get (maps.insert fds.slots (pair p fd) copy) (pair p fd)) None) below ∙ there_now fds.slots (pair p fd) copy

pub copies_share_the_offset : CopiesShareTheOffset
unfolding dup
copies_share_the_offset s p call b t c fd did = go (slot s.fds p (low_argument call 0)) refl did
  where
    one : (named : Slot) (o : Option ℕ) → free s.fds.slots p ≡ o → given o emfile (λ n. Returns (with_fds s (with_slot s.fds p n (record { description = named.description; closes_on_exec = false }))) b n) ≡ Returns t c fd → described t.fds p fd ≡ Some named.description
    one named None is did = absurd (cc did)
    one named (Some n) is did =
        let copy : Slot = record { description = named.description; closes_on_exec = false } in
        let same : fd ≡ n = same_result _ t _ c _ fd did in
        ap (λ (u : Shared). described u.fds p fd) (same_shared _ t _ c _ fd did)
        ∙ ap (λ m. described (with_slot s.fds p n copy) p m) same
        ∙ ap (option_map (λ (x : Slot). x.description)) (copied s.fds p n copy (free_below s.fds.slots p n is))

    go : (o : Option Slot) → slot s.fds p (low_argument call 0) ≡ o → given o ebadf (λ named. given (free s.fds.slots p) emfile (λ n. Returns (with_fds s (with_slot s.fds p n (record { description = named.description; closes_on_exec = false }))) b n)) ≡ Returns t c fd
        → described t.fds p fd ≡ option_map (λ (x : Slot). x.description) (slot s.fds p (low_argument call 0))
    go None is did = absurd (cc did)
    go (Some named) is did = one named (free s.fds.slots p) refl did ∙ sym (ap (option_map (λ (x : Slot). x.description)) is)

-- files

pub appends_at_the_end : AppendsAtTheEnd
appends_at_the_end s b named d node bytes appends some =
    ap (λ t. cond t (Returns s b 0) (writes_at s b named node (start_of s d node) bytes)) some
    ∙ ap (λ t. writes_at s b named node (cond t (length (content s.tree node)) d.offset) bytes) appends

either_true : (a b : Bool) → b ≡ true → (a || b) ≡ true
either_true true b h = refl
either_true false b h = h

pub open_files_live_on : OpenFilesLiveOn
unfolding unlinked
open_files_live_on tree fds path node is lives =
    ap (λ o. maps.get (unlinked_node (without_path tree path) fds o).nodes node) is
    ∙ ap (λ t. maps.get (cond t (without_path tree path) (without_node (without_path tree path) node)).nodes node) (either_true (has_path (without_path tree path) node) (is_open_node fds node) lives)

-- children

no_word : (options : ℕ) (e : Entry) (l : Life) → e.life ≡ l → is_zombie l ≡ false → word_in options (Some (with_news e None)) ≡ None
no_word options e Alive is h = ap (λ (l : Life). option_or (zombie_word l) None) is
no_word options e (Dying w) is h = ap (λ (l : Life). option_or (zombie_word l) None) is
no_word options e (Zombie w) is h = absurd (cc h)

pub told_once : ToldOnce
told_once s n options = go (maps.get s.entries n) refl
  where
    either : (e : Entry) → maps.get s.entries n ≡ Some e → (z : Bool) → is_zombie e.life ≡ z → word_in options (maps.get (cond z (maps.remove s.entries n) (changed s.entries n (λ e. with_news e None))) n) ≡ None
    either e there true zombie = ap (word_in options) (gone_now s.entries n)
    either e there false other =
        ap (λ o. word_in options (maps.get (changed_entry s.entries n (λ e. with_news e None) o) n)) there
        ∙ ap (word_in options) (there_now s.entries n (with_news e None)) ∙ no_word options e e.life refl other

    go : (o : Option Entry) → maps.get s.entries n ≡ o → word_in options (maps.get (told_entry s.entries n o) n) ≡ None
    go None there = ap (word_in options) there
    go (Some e) there = either e there (is_zombie e.life) refl

-- signals

no_signal : signal_numbered 0 ≡ None
unfolding signal_numbered
no_signal = refl

pub asks_only : AsksOnly
unfolding kill
asks_only s p call b t c x is did =
    aimed_nobody (nat_lt 0 (low_argument call 0) && nat_lt (low_argument call 0) (2 ^ 31) && (low_argument call 1 == 0 || is_signal (low_argument call 1))) did
  where
    there : (o : Option Entry) (signal : Option Signal) → signal ≡ None → given o esrch (λ e. Returns (sends s p (low_argument call 0) signal) b 0) ≡ Returns t c x → t ≡ s
    there None signal none did = absurd (cc did)
    there (Some e) None none did = same_shared s t b c 0 x did
    there (Some e) (Some signal) none did = absurd (cc none)

    aimed_nobody : (aims : Bool) → given (cond aims (Some (record { pid = low_argument call 0; signal = signal_numbered (low_argument call 1) })) None) einval (λ (a : Aim). given (maps.get s.entries a.pid) esrch (λ e. Returns (sends s p a.pid a.signal) b 0)) ≡ Returns t c x → t ≡ s
    aimed_nobody false did = absurd (cc did)
    aimed_nobody true did = there (maps.get s.entries (low_argument call 0)) (signal_numbered (low_argument call 1)) (ap signal_numbered is ∙ no_signal) did

pub mask_comes_back : MaskComesBack
mask_comes_back g set = refl
