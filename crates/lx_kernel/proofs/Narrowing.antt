-- What a call on files leaves of the descriptors and pipes that other processes use.
use Rattle.std.proofs.Common.{◌≡◌, ℕ, ◌+◌, ◌<◌, Bool, true, false, cond, List, [], ◌∷◌, length, Option, Some, None, refl, ap, sym, subst, ◌∙◌, arith}
use Rattle.std.proofs.lemmas.Bool.Decides.{nat_tests}
use Rattle.std.specs.Prelude.{◌==◌, ◌&&◌, ◌||◌, nat_lt, find, min, is_none}
use Rattle.std.specs.Option.{unwrap_or, option_and_then}
use Rattle.std.specs.List.{range_with_len}
use Rattle.std.specs.Cmp.{nat_cmp_total}
use Rattle.std.specs.FinMap as maps
use Rattle.containers.specs.Vacant.{vacant}
use Rattle.containers.proofs.Vacant.{vacant_is_least}
use Rattle.rv_mem.specs.Memory.{first_fault}
use Rattle.rv_mem.specs.declared.rights.Access.TheVariants as access
use Rattle.lx_abi.specs.Limits.{most_moved, pipe_size}
use Rattle.lx_abi.specs.declared.log.Call.{Call}
use Rattle.lx_files.specs.declared.tree.Tree.{Tree}
use Rattle.lx_files.specs.Tallies.{how_many, holds, one_if, weight}
use Rattle.lx_files.proofs.Totals.{total-insert, total-remove}
use Rattle.lx_open.specs.Kinds.{SlotMap, names_description, is_reading, is_writing, reads_pipe, writes_pipe, moved}
use Rattle.lx_open.specs.Opens.{pair, slot, description, free, is_named, has_readers, has_writers, held, opened, with_pipe, with_slot, with_offset, with_held, pipe_changed}
use Rattle.lx_open.specs.Releases.{object_released, description_dropped, description_released, pipe_released, slot_closed, closed}
use Rattle.lx_open.specs.declared.description.Description.{Description}
use Rattle.lx_open.specs.declared.description.Object.{Object}
use Rattle.lx_open.specs.declared.description.Object.TheVariants.{Input, Console, ReadEnd, WriteEnd, Opened}
use Rattle.lx_open.specs.declared.description.Slot.{Slot}
use Rattle.lx_open.specs.declared.fd_table.FdTable.{FdTable}
use Rattle.lx_proc.specs.Answers.{argument, low_argument}
use Rattle.lx_proc.specs.declared.state.Shared.{Shared}
use Rattle.lx_proc.specs.declared.state.UserState.{UserState}
use Rattle.lx_fcalls.specs.Blocking.{would_block, read_would_block, write_would_block, open_passes, passes, read_waits, write_waits, reading_waits, writing_waits}
use Rattle.lx_model.specs.declared.stage.Stage.TheVariants.{Born, Run, Faulting, Entered, Doing, Replaced, Acted, Finished, Taken, Dropped, Stopped, Released, Woken}
use Rattle.lx_model.specs.declared.stage.Task.{Task}
use Rattle.lx_model.specs.declared.stage.Task.TheVariants.{Alive, Dying, Gone}
use Rattle.lx_pcalls.proofs.Children.{unequal}
use Rattle.lx_pcalls.specs.Calls.{would_block as process_would_block}
use Rattle.lx_pcalls.specs.Interruption.{is_interrupted}
use Rattle.lx_pcalls.specs.Wait4.{wait4_would_block}
use Rattle.lx_turn.specs.Reactions.{is_killed}
use Rattle.lx_kernel.specs.Blocking.{IsBlocked, can_turn, would_block as blocks}
use Rattle.lx_kernel.specs.Pipes.{pipe_of, pipe_in, pipe_at, used, used_by}
use Rattle.lx_kernel.proofs.Blocked.{AllSmall, small_range, other_pair, is_quiet, both, no_turn}
use Rattle.lx_kernel.proofs.Calming.{numbered}
use Rattle.lx_kernel.proofs.Placed.{either, get_put, other_put, other_left}

-- what each process but p has is there as before, but for offsets, and each pipe but one that was changed: it holds
-- what it held, and has readers and writers where it had some
pub record AreLeft (p : ℕ) (changed : Option ℕ) (fds fds' : FdTable) : Type 0 where
  pub slots_are : (q fd : ℕ) → (q ≡ p → ⊥) → slot fds' q fd ≡ slot fds q fd
  pub named_are : (q fd : ℕ) → (q ≡ p → ⊥) → (s : Slot) (d : Description) → slot fds q fd ≡ Some s → description fds s.description ≡ Some d
      → (offset : ℕ) × (description fds' s.description ≡ Some (record d { offset = offset }))
  pub held_is : (pipe : ℕ) → (changed ≡ Some pipe → ⊥) → held fds' pipe ≡ held fds pipe
  pub readers_are : (pipe : ℕ) → (changed ≡ Some pipe → ⊥) → has_readers fds pipe ≡ true → has_readers fds' pipe ≡ true
  pub writers_are : (pipe : ℕ) → (changed ≡ Some pipe → ⊥) → has_writers fds pipe ≡ true → has_writers fds' pipe ≡ true

second_kept : (a b b' : Bool) → (b ≡ true → b' ≡ true) → (a && b) ≡ true → (a && b') ≡ true
second_kept true b b' kept e = kept e
second_kept false b b' kept e = absurd (cc e)

first_kept : (a a' b : Bool) → (a ≡ true → a' ≡ true) → (a && b) ≡ true → (a' && b) ≡ true
first_kept true a' b kept e = ap (λ x. x && b) (kept refl) ∙ e
first_kept false a' b kept e = absurd (cc e)

first_of : (a b : Bool) → b ≡ false → (a || b) ≡ true → a ≡ true
first_of true b none e = refl
first_of false b none e = sym none ∙ e

-- Who waits waits on.

module _ (p q fd : ℕ) (changed : Option ℕ) (fds fds' : FdTable) (left : AreLeft p changed fds fds') (ne : q ≡ p → ⊥) (apart : (pipe : ℕ) → changed ≡ Some pipe → pipe_at fds q fd ≡ Some pipe → ⊥) where
  -- a test of the description of a descriptor, that doesn't look at the offset
  passed : (test test' : Description → Bool) → ((d : Description) (offset : ℕ) → ((pipe : ℕ) → changed ≡ Some pipe → pipe_of d.object ≡ Some pipe → ⊥) → test d ≡ true → test' (record d { offset = offset }) ≡ true)
      → open_passes fds q fd test ≡ true → open_passes fds' q fd test' ≡ true
  unfolding pipe_at
  passed test test' kept e = slotted (slot fds q fd) refl e
    where
      described : (s : Slot) → slot fds q fd ≡ Some s → (o : Option Description) → description fds s.description ≡ o → passes test o ≡ true → open_passes fds' q fd test' ≡ true
      described s is None there e = absurd (cc e)
      described s is (Some d) there e =
          let now = left.named_are q fd ne s d is there in
          let uses : pipe_at fds q fd ≡ pipe_of d.object = ap (option_and_then (λ (named : Slot). pipe_in (description fds named.description))) is ∙ ap pipe_in there in
          ap (passes (λ (named : Slot). passes test' (description fds' named.description))) (left.slots_are q fd ne ∙ is)
          ∙ ap (passes test') now.1
          ∙ kept d now.0 (λ pipe c u. apart pipe c (uses ∙ u)) e

      slotted : (o : Option Slot) → slot fds q fd ≡ o → passes (λ (named : Slot). passes test (description fds named.description)) o ≡ true → open_passes fds' q fd test' ≡ true
      slotted None is e = absurd (cc e)
      slotted (Some s) is e = described s is (description fds s.description) refl e

  reading_on : (n : ℕ) (o : Object) → ((pipe : ℕ) → changed ≡ Some pipe → pipe_of o ≡ Some pipe → ⊥) → reading_waits fds n o ≡ true → reading_waits fds' n o ≡ true
  reading_on n Input other e = absurd (cc e)
  reading_on n Console other e = absurd (cc e)
  reading_on n (ReadEnd pipe) other e =
      let far = λ (c : changed ≡ Some pipe). other pipe c refl in
      ap (λ bytes. (length bytes == 0) && nat_lt 0 n && has_writers fds' pipe) (left.held_is pipe far)
      ∙ second_kept ((length (held fds pipe) == 0) && nat_lt 0 n) (has_writers fds pipe) (has_writers fds' pipe) (left.writers_are pipe far) e
  reading_on n (WriteEnd pipe) other e = absurd (cc e)
  reading_on n (Opened node) other e = absurd (cc e)

  writing_on : (n : ℕ) (o : Object) → ((pipe : ℕ) → changed ≡ Some pipe → pipe_of o ≡ Some pipe → ⊥) → writing_waits fds n o ≡ true → writing_waits fds' n o ≡ true
  writing_on n Input other e = absurd (cc e)
  writing_on n Console other e = absurd (cc e)
  writing_on n (ReadEnd pipe) other e = absurd (cc e)
  writing_on n (WriteEnd pipe) other e =
      let far = λ (c : changed ≡ Some pipe). other pipe c refl in
      ap (λ bytes. has_readers fds' pipe && nat_lt pipe_size (length bytes + n)) (left.held_is pipe far)
      ∙ first_kept (has_readers fds pipe) (has_readers fds' pipe) (nat_lt pipe_size (length (held fds pipe) + n)) (left.readers_are pipe far) e
  writing_on n (Opened node) other e = absurd (cc e)

  pub read_on : (n : ℕ) → open_passes fds q fd (read_waits fds n) ≡ true → open_passes fds' q fd (read_waits fds' n) ≡ true
  read_on n = passed (read_waits fds n) (read_waits fds' n) (λ d offset other e. second_kept d.may_read (reading_waits fds n d.object) (reading_waits fds' n d.object) (reading_on n d.object other) e)

  pub write_on : (b : UserState) (at n : ℕ) → open_passes fds q fd (write_waits fds b.memory at n) ≡ true → open_passes fds' q fd (write_waits fds' b.memory at n) ≡ true
  write_on b at n = passed (write_waits fds b.memory at n) (write_waits fds' b.memory at n) (λ d offset other e.
      let readable = is_none (first_fault access.Read b.memory at n) in
      second_kept d.may_write (readable && writing_waits fds n d.object) (readable && writing_waits fds' n d.object)
      (second_kept readable (writing_waits fds n d.object) (writing_waits fds' n d.object) (writing_on n d.object other)) e)

-- and is in a call on the same pipe.

module _ (p q fd : ℕ) (changed : Option ℕ) (fds fds' : FdTable) (left : AreLeft p changed fds fds') (ne : q ≡ p → ⊥) where
  pipe_on : (test : Description → Bool) → open_passes fds q fd test ≡ true → pipe_at fds' q fd ≡ pipe_at fds q fd
  unfolding pipe_at
  pipe_on test e = slotted (slot fds q fd) refl e
    where
      described : (s : Slot) → slot fds q fd ≡ Some s → (o : Option Description) → description fds s.description ≡ o → passes test o ≡ true → pipe_at fds' q fd ≡ pipe_at fds q fd
      described s is None there e = absurd (cc e)
      described s is (Some d) there e =
          ap (option_and_then (λ (named : Slot). pipe_in (description fds' named.description))) (left.slots_are q fd ne ∙ is)
          ∙ ap pipe_in (left.named_are q fd ne s d is there).1
          ∙ sym (ap (option_and_then (λ (named : Slot). pipe_in (description fds named.description))) is ∙ ap pipe_in there)

      slotted : (o : Option Slot) → slot fds q fd ≡ o → passes (λ (named : Slot). passes test (description fds named.description)) o ≡ true → pipe_at fds' q fd ≡ pipe_at fds q fd
      slotted None is e = absurd (cc e)
      slotted (Some s) is e = described s is (description fds s.description) refl e

pub waits_on : (p : ℕ) (changed : Option ℕ) (s s' : Shared) → AreLeft p changed s.fds s'.fds → (q : ℕ) → (q ≡ p → ⊥) → (call : Call) (b : UserState)
    → ((pipe : ℕ) → changed ≡ Some pipe → used_by s.fds q call ≡ Some pipe → ⊥) → would_block s q call b ≡ true → would_block s' q call b ≡ true
unfolding would_block read_would_block write_would_block
waits_on p changed s s' left q ne call b apart = go (call.number == 63) (call.number == 64) refl refl
  where
    go : (x y : Bool) → (call.number == 63) ≡ x → (call.number == 64) ≡ y → cond x (read_would_block s q call) (cond y (write_would_block s q call b) false) ≡ true
        → cond x (read_would_block s' q call) (cond y (write_would_block s' q call b) false) ≡ true
    go true y reads writes e =
        read_on p q (low_argument call 0) changed s.fds s'.fds left ne
        (λ pipe c u. apart pipe c (ap (λ x. cond (x || (call.number == 64)) (pipe_at s.fds q (low_argument call 0)) None) reads ∙ u))
        (min (argument call 2) most_moved) e
    go false true reads writes e =
        write_on p q (low_argument call 0) changed s.fds s'.fds left ne
        (λ pipe c u. apart pipe c (ap (λ x. cond (x || (call.number == 64)) (pipe_at s.fds q (low_argument call 0)) None) reads ∙ ap (λ y. cond y (pipe_at s.fds q (low_argument call 0)) None) writes ∙ u))
        b (argument call 1) (min (argument call 2) most_moved) e
    go false false reads writes e = absurd (cc e)

-- who waits in a read or a write is in that call on the same pipe
uses_by : (p : ℕ) (changed : Option ℕ) (s s' : Shared) → AreLeft p changed s.fds s'.fds → (q : ℕ) → (q ≡ p → ⊥) → (call : Call) (b : UserState)
    → (would_block s q call b || process_would_block s q call) ≡ true → used_by s'.fds q call ≡ used_by s.fds q call
unfolding would_block read_would_block write_would_block process_would_block
uses_by p changed s s' left q ne call b = go (call.number == 63) (call.number == 64) refl refl
  where
    fd : ℕ
    fd = low_argument call 0

    n : ℕ
    n = min (argument call 2) most_moved

    no_child : (m : ℕ) → call.number ≡ m → (m == 260) ≡ false → process_would_block s q call ≡ false
    no_child m is other = ap (λ x. cond (x == 260) (wait4_would_block s q call) false) is ∙ ap (λ x. cond x (wait4_would_block s q call) false) other

    go : (x y : Bool) → (call.number == 63) ≡ x → (call.number == 64) ≡ y
        → (cond x (read_would_block s q call) (cond y (write_would_block s q call b) false) || process_would_block s q call) ≡ true
        → cond (x || y) (pipe_at s'.fds q fd) None ≡ cond (x || y) (pipe_at s.fds q fd) None
    go true y reads writes e =
        pipe_on p q fd changed s.fds s'.fds left ne (read_waits s.fds n)
        (first_of (read_would_block s q call) (process_would_block s q call) (no_child 63 (numbered call.number 63 reads) refl) e)
    go false true reads writes e =
        pipe_on p q fd changed s.fds s'.fds left ne (write_waits s.fds b.memory (argument call 1) n)
        (first_of (write_would_block s q call b) (process_would_block s q call) (no_child 64 (numbered call.number 64 writes) refl) e)
    go false false reads writes e = refl

pub uses_on : (p : ℕ) (changed : Option ℕ) (s s' : Shared) → AreLeft p changed s.fds s'.fds → (q : ℕ) → (q ≡ p → ⊥) → (task : Task UserState)
    → IsBlocked s q task → used s' q task ≡ used s q task
unfolding can_turn blocks
uses_on p changed s s' left q ne (Alive b Born) e = refl
uses_on p changed s s' left q ne (Alive b Run) e = refl
uses_on p changed s s' left q ne (Alive b (Faulting signal cause)) e = refl
uses_on p changed s s' left q ne (Alive b (Entered joined)) e = refl
uses_on p changed s s' left q ne (Alive b (Doing call)) e =
    let waits = would_block s q call b || process_would_block s q call in
    let entry = maps.get s.entries q in
    uses_by p changed s s' left q ne call b (both waits (is_quiet false entry) (no_turn waits (is_killed entry) (is_interrupted entry) e)).0
uses_on p changed s s' left q ne (Alive b (Replaced call x)) e = refl
uses_on p changed s s' left q ne (Alive b (Acted call x replaced)) e = refl
uses_on p changed s s' left q ne (Alive b Finished) e = refl
uses_on p changed s s' left q ne (Alive b (Taken signal cause)) e = refl
uses_on p changed s s' left q ne (Alive b Dropped) e = refl
uses_on p changed s s' left q ne (Alive b (Stopped signal)) e = refl
uses_on p changed s s' left q ne (Alive b Released) e = refl
uses_on p changed s s' left q ne (Alive b Woken) e = refl
uses_on p changed s s' left q ne (Dying w) e = refl
uses_on p changed s s' left q ne Gone e = refl

-- Descriptors below the limit

find_here : (n k : ℕ) (ks : List ℕ) (test : ℕ → Bool) (b : Bool) → k < 256 → cond b (Some k) (find test ks) ≡ Some n → (find test ks ≡ Some n → n < 256) → n < 256
find_here n k ks test true small e later = subst (λ (m : ℕ). m < 256) (ap (λ o. unwrap_or o k) e) small
find_here n k ks test false small e later = later e

find_small : (test : ℕ → Bool) (n : ℕ) (ns : List ℕ) → AllSmall ns → find test ns ≡ Some n → n < 256
find_small test n [] small e = absurd (cc e)
find_small test n (k ∷ ks) small e = find_here n k ks test (test k) small.0 e (λ h. find_small test n ks small.1 h)

pub free_small : (slots : SlotMap) (pid fd : ℕ) → free slots pid ≡ Some fd → fd < 256
unfolding free
free_small slots pid fd e = find_small (λ n. is_none (maps.get slots (pair pid n))) fd (range_with_len 0 256) (small_range 0 256 (omega arith)) e

pub slot_small : (fds : FdTable) (q fd : ℕ) (s : Slot) → slot fds q fd ≡ Some s → (fd < 256) × (maps.get fds.slots (pair q fd) ≡ Some s)
slot_small fds q fd s is = go (nat_lt fd 256) refl is
  where
    go : (b : Bool) → nat_lt fd 256 ≡ b → cond b (maps.get fds.slots (pair q fd)) None ≡ Some s → (fd < 256) × (maps.get fds.slots (pair q fd) ≡ Some s)
    go true e is = ((let lt : fd < 256 = grind (arith, nat_tests, e) in lt), is)
    go false e is = absurd (cc is)

-- a slot of one process is another's no more
slots_by : (slots slots' : SlotMap) (q fd : ℕ) → (fd < 256 → maps.get slots' (pair q fd) ≡ maps.get slots (pair q fd)) → (b : Bool) → nat_lt fd 256 ≡ b
    → cond b (maps.get slots' (pair q fd)) None ≡ cond b (maps.get slots (pair q fd)) None
slots_by slots slots' q fd same true e = same (let lt : fd < 256 = grind (arith, nat_tests, e) in lt)
slots_by slots slots' q fd same false e = refl

-- Some value of a map passes

some_one : (n : ℕ) → 0 < n → nat_lt 0 n ≡ true
some_one n h = grind (arith, nat_tests)

some_are : (n : ℕ) → nat_lt 0 n ≡ true → 0 < n
some_are n h = grind (arith, nat_tests)

named_here : (slots : SlotMap) (k : ℕ) (s : Slot) → maps.get slots k ≡ Some s → holds (names_description s.description) slots ≡ true
named_here slots k s is =
    let sum = total-remove nat_cmp_total maps.nat_cmp-IsAntisymmetric (λ x. one_if (names_description s.description x)) slots k in
    let it = ap (weight (λ x. one_if (names_description s.description x))) is in
    let same : (s.description == s.description) ≡ true = grind (arith, nat_tests) in
    let one = ap one_if same in
    some_one _ (omega (arith, sum, it, one))

unread : (pipe : ℕ) (o : Object) → (pipe_of o ≡ Some pipe → ⊥) → is_reading pipe o ≡ false
unread pipe Input far = refl
unread pipe Console far = refl
unread pipe (ReadEnd other) far = unequal other pipe (λ e. far (ap (λ n. Some n) e))
unread pipe (WriteEnd other) far = refl
unread pipe (Opened node) far = refl

unwritten : (pipe : ℕ) (o : Object) → (pipe_of o ≡ Some pipe → ⊥) → is_writing pipe o ≡ false
unwritten pipe Input far = refl
unwritten pipe Console far = refl
unwritten pipe (ReadEnd other) far = refl
unwritten pipe (WriteEnd other) far = unequal other pipe (λ e. far (ap (λ n. Some n) e))
unwritten pipe (Opened node) far = refl

never : (b : Bool) → b ≡ true → b ≡ false → ⊥
never true h e = cc e
never false h e = cc h

module _ (fds : FdTable) (test : Description → Bool) where
  -- of another offset
  moved_holds : ((d : Description) (offset : ℕ) → test (record d { offset = offset }) ≡ test d) → (n offset : ℕ) (o : Option Description) → maps.get fds.descriptions n ≡ o
      → holds test (moved fds.descriptions n offset o) ≡ holds test fds.descriptions
  moved_holds blind n offset None is = refl
  moved_holds blind n offset (Some d) is =
      let next : Description = record d { offset = offset } in
      let sum : how_many test (maps.insert fds.descriptions n next) + weight (λ x. one_if (test x)) (maps.get fds.descriptions n) ≡ how_many test fds.descriptions + one_if (test next) = total-insert nat_cmp_total (λ x. one_if (test x)) fds.descriptions n next in
      let it : weight (λ x. one_if (test x)) (maps.get fds.descriptions n) ≡ one_if (test d) = ap (weight (λ x. one_if (test x))) is in
      let alike = ap one_if (blind d offset) in
      ap (nat_lt 0) (omega (arith, sum, it, alike))

  -- of one that is new
  more_holds : (n : ℕ) (d : Description) → maps.get fds.descriptions n ≡ None → holds test fds.descriptions ≡ true → holds test (maps.insert fds.descriptions n d) ≡ true
  more_holds n d vacant_is there =
      let sum : how_many test (maps.insert fds.descriptions n d) + weight (λ x. one_if (test x)) (maps.get fds.descriptions n) ≡ how_many test fds.descriptions + one_if (test d) = total-insert nat_cmp_total (λ x. one_if (test x)) fds.descriptions n d in
      let it : weight (λ x. one_if (test x)) (maps.get fds.descriptions n) ≡ 0 = ap (weight (λ x. one_if (test x))) vacant_is in
      let some : 0 < how_many test fds.descriptions = some_are _ there in
      some_one _ (omega (arith, sum, it, some))

  -- and of one that goes, and didn't pass
  less_holds : (n : ℕ) (d : Description) → maps.get fds.descriptions n ≡ Some d → test d ≡ false → holds test (maps.remove fds.descriptions n) ≡ holds test fds.descriptions
  less_holds n d there fails =
      let sum : how_many test (maps.remove fds.descriptions n) + weight (λ x. one_if (test x)) (maps.get fds.descriptions n) ≡ how_many test fds.descriptions = total-remove nat_cmp_total maps.nat_cmp-IsAntisymmetric (λ x. one_if (test x)) fds.descriptions n in
      let it : weight (λ x. one_if (test x)) (maps.get fds.descriptions n) ≡ one_if (test d) = ap (weight (λ x. one_if (test x))) there in
      let none : one_if (test d) ≡ 0 = ap one_if fails in
      ap (nat_lt 0) (omega (arith, sum, it, none))

-- What calls leave

module _ (p : ℕ) (changed : Option ℕ) (fds : FdTable) where
  pub same_left : AreLeft p changed fds fds
  same_left = record {
    slots_are = λ q fd ne. refl;
    named_are = λ q fd ne s d is there. (d.offset, there);
    held_is = λ pipe far. refl;
    readers_are = λ pipe far there. there;
    writers_are = λ pipe far there. there;
  }

  -- what two changes leave
  pub then_left : (one two : FdTable) → AreLeft p changed fds one → AreLeft p changed one two → AreLeft p changed fds two
  then_left one two first second = record {
    slots_are = λ q fd ne. second.slots_are q fd ne ∙ first.slots_are q fd ne;
    named_are = λ q fd ne s d is there.
        let now = first.named_are q fd ne s d is there in
        second.named_are q fd ne s (record d { offset = now.0 }) (first.slots_are q fd ne ∙ is) now.1;
    held_is = λ pipe far. second.held_is pipe far ∙ first.held_is pipe far;
    readers_are = λ pipe far there. second.readers_are pipe far (first.readers_are pipe far there);
    writers_are = λ pipe far there. second.writers_are pipe far (first.writers_are pipe far there);
  }

  -- an offset
  module _ (n offset : ℕ) where
    moved_at : (m : ℕ) (d : Description) (o : Option Description) → maps.get fds.descriptions n ≡ o → maps.get fds.descriptions m ≡ Some d
        → (off : ℕ) × (maps.get (moved fds.descriptions n offset o) m ≡ Some (record d { offset = off }))
    moved_at m d None is there = (d.offset, there)
    moved_at m d (Some x) is there =
        let next : Description = record x { offset = offset } in
        either m n ((off : ℕ) × (maps.get (maps.insert fds.descriptions n next) m ≡ Some (record d { offset = off }))) (m == n) refl
        (λ e.
        let one : x ≡ d = ap (λ o. unwrap_or o x) (sym is ∙ ap (maps.get fds.descriptions) (sym e) ∙ there) in
        (offset, ap (maps.get (maps.insert fds.descriptions n next)) e ∙ get_put fds.descriptions n next ∙ ap (λ (y : Description). Some (record y { offset = offset })) one))
        (λ ne. (d.offset, other_put fds.descriptions n m ne next ∙ there))

    pub offset_left : AreLeft p changed fds (with_offset fds n offset)
    offset_left =
        let there = maps.get fds.descriptions n in
        record {
          slots_are = λ q fd ne. refl;
          named_are = λ q fd ne s d is here. moved_at s.description d there refl here;
          held_is = λ pipe far. refl;
          readers_are = λ pipe far some. moved_holds fds (reads_pipe pipe) (λ d o. refl) n offset there refl ∙ some;
          writers_are = λ pipe far some. moved_holds fds (writes_pipe pipe) (λ d o. refl) n offset there refl ∙ some;
        }

  -- a slot of the process's own
  own_slot : (fd : ℕ) (s : Slot) → fd < 256 → (q at : ℕ) → (q ≡ p → ⊥) → slot (with_slot fds p fd s) q at ≡ slot fds q at
  own_slot fd s small q at ne = slots_by fds.slots (maps.insert fds.slots (pair p fd) s) q at (λ lt. other_put fds.slots (pair p fd) (pair q at) (other_pair p q at ne lt fd small) s) (nat_lt at 256) refl

  pub slot_left : (fd : ℕ) (s : Slot) → fd < 256 → AreLeft p changed fds (with_slot fds p fd s)
  slot_left fd s small = record {
    slots_are = own_slot fd s small;
    named_are = λ q at ne x d is there. (d.offset, there);
    held_is = λ pipe far. refl;
    readers_are = λ pipe far there. there;
    writers_are = λ pipe far there. there;
  }

  -- a new description
  pub opened_left : (fd : ℕ) (d : Description) (closes : Bool) → fd < 256 → AreLeft p changed fds (opened fds p fd d closes)
  opened_left fd d closes small =
      let v = vacant fds.descriptions in
      let none : maps.get fds.descriptions v ≡ None = (vacant_is_least fds.descriptions).0 in
      let own : Slot = record { description = v; closes_on_exec = closes } in
      record {
        slots_are = own_slot fd own small;
        named_are = λ q at ne s x is there.
            (x.offset, other_put fds.descriptions v s.description (λ e. let absent : ◌≡◌ {A = Option Description} None (Some x) = sym none ∙ ap (maps.get fds.descriptions) (sym e) ∙ there in cc absent) d ∙ there);
        held_is = λ pipe far. refl;
        readers_are = λ pipe far there. more_holds fds (reads_pipe pipe) v d none there;
        writers_are = λ pipe far there. more_holds fds (writes_pipe pipe) v d none there;
      }

  -- a new pipe, which holds nothing
  pub pipe_left : AreLeft p changed fds (with_pipe fds (vacant fds.pipes) [])
  pipe_left =
      let v = vacant fds.pipes in
      let none : maps.get fds.pipes v ≡ None = (vacant_is_least fds.pipes).0 in
      record {
        slots_are = λ q fd ne. refl;
        named_are = λ q fd ne s d is there. (d.offset, there);
        held_is = λ pipe far. either pipe v (held (with_pipe fds v []) pipe ≡ held fds pipe) (pipe == v) refl
            (λ e. ap (λ o. unwrap_or o []) (ap (maps.get (maps.insert fds.pipes v [])) e ∙ get_put fds.pipes v []) ∙ sym (ap (λ o. unwrap_or o []) (ap (maps.get fds.pipes) e ∙ none)))
            (λ other. ap (λ o. unwrap_or o []) (other_put fds.pipes v pipe other []));
        readers_are = λ pipe far there. there;
        writers_are = λ pipe far there. there;
      }

-- what a pipe holds
pub held_left : (p : ℕ) (fds : FdTable) (pipe : ℕ) (f : List ℕ → List ℕ) → AreLeft p (Some pipe) fds (with_held fds pipe f)
held_left p fds pipe f = go (maps.get fds.pipes pipe)
  where
    go : (o : Option (List ℕ)) → AreLeft p (Some pipe) fds (pipe_changed fds pipe f o)
    go None = same_left p (Some pipe) fds
    go (Some bytes) = record {
      slots_are = λ q fd ne. refl;
      named_are = λ q fd ne s d is there. (d.offset, there);
      held_is = λ other far. ap (λ o. unwrap_or o []) (other_put fds.pipes pipe other (λ e. far (ap (λ n. Some n) (sym e))) (f bytes));
      readers_are = λ other far there. there;
      writers_are = λ other far there. there;
    }

-- a descriptor of the process's own is closed
module _ (p : ℕ) (fds : FdTable) (tree : Tree) (fd : ℕ) (small : fd < 256) (own : Slot) where
  abbrev Rest : FdTable
  Rest = record fds { slots = maps.remove fds.slots (pair p fd) }

  rest_slot : (q at : ℕ) → (q ≡ p → ⊥) → slot Rest q at ≡ slot fds q at
  rest_slot q at ne = slots_by fds.slots (maps.remove fds.slots (pair p fd)) q at (λ lt. other_left fds.slots (pair p fd) (pair q at) (other_pair p q at ne lt fd small)) (nat_lt at 256) refl

  rest_left : (changed : Option ℕ) → AreLeft p changed fds Rest
  rest_left changed = record {
    slots_are = rest_slot;
    named_are = λ q at ne s d is there. (d.offset, there);
    held_is = λ pipe far. refl;
    readers_are = λ pipe far there. there;
    writers_are = λ pipe far there. there;
  }

  -- its description goes, which no other names
  abbrev Less : FdTable
  Less = record fds { slots = maps.remove fds.slots (pair p fd); descriptions = maps.remove fds.descriptions own.description }

  other_named : is_named Rest own.description ≡ false → (q at : ℕ) → (q ≡ p → ⊥) → (s : Slot) → slot fds q at ≡ Some s → s.description ≡ own.description → ⊥
  other_named unnamed q at ne s is same =
      let here = slot_small Rest q at s (rest_slot q at ne ∙ is) in
      let yes = named_here (maps.remove fds.slots (pair p fd)) (pair q at) s here.1 in
      never (holds (names_description own.description) (maps.remove fds.slots (pair p fd))) (subst (λ n. holds (names_description n) (maps.remove fds.slots (pair p fd)) ≡ true) same yes) unnamed

  less_left : (d : Description) → description fds own.description ≡ Some d → is_named Rest own.description ≡ false → AreLeft p (pipe_of d.object) fds Less
  less_left d there unnamed = record {
    slots_are = rest_slot;
    named_are = λ q at ne s x is here. (x.offset, other_left fds.descriptions own.description s.description (other_named unnamed q at ne s is) ∙ here);
    held_is = λ pipe far. refl;
    readers_are = λ pipe far some. less_holds fds (reads_pipe pipe) own.description d there (unread pipe d.object far) ∙ some;
    writers_are = λ pipe far some. less_holds fds (writes_pipe pipe) own.description d there (unwritten pipe d.object far) ∙ some;
  }

  -- and its pipe, where that was the last end
  gone_left : (pipe : ℕ) → AreLeft p (Some pipe) fds Less → AreLeft p (Some pipe) fds (pipe_released Less pipe)
  gone_left pipe left = go (has_readers Less pipe || has_writers Less pipe)
    where
      go : (b : Bool) → AreLeft p (Some pipe) fds (cond b Less (record Less { pipes = maps.remove fds.pipes pipe }))
      go true = left
      go false = record {
        slots_are = left.slots_are;
        named_are = left.named_are;
        held_is = λ other far. ap (λ o. unwrap_or o []) (other_left fds.pipes pipe other (λ e. far (ap (λ n. Some n) (sym e))));
        readers_are = left.readers_are;
        writers_are = left.writers_are;
      }

  object_left : (o : Object) → AreLeft p (pipe_of o) fds Less → AreLeft p (pipe_of o) fds (object_released tree Less o).fds
  object_left Input left = left
  object_left Console left = left
  object_left (ReadEnd pipe) left = gone_left pipe left
  object_left (WriteEnd pipe) left = gone_left pipe left
  object_left (Opened node) left = left

  dropped_left : (o : Option Description) → description fds own.description ≡ o → is_named Rest own.description ≡ false → AreLeft p (pipe_in o) fds (description_dropped tree Rest own.description o).fds
  dropped_left None there unnamed = rest_left None
  dropped_left (Some d) there unnamed = object_left d.object (less_left d there unnamed)

  released_left : AreLeft p (pipe_in (description fds own.description)) fds (description_released tree Rest own.description).fds
  unfolding description_released
  released_left = go (is_named Rest own.description) refl
    where
      go : (b : Bool) → is_named Rest own.description ≡ b
          → AreLeft p (pipe_in (description fds own.description)) fds (cond b (record { tree = tree; fds = Rest }) (description_dropped tree Rest own.description (description fds own.description))).fds
      go true e = rest_left (pipe_in (description fds own.description))
      go false e = dropped_left (description fds own.description) refl e

pub closed_left : (p : ℕ) (fds : FdTable) (tree : Tree) (fd : ℕ) → AreLeft p (pipe_at fds p fd) fds (closed tree fds p fd).fds
unfolding closed pipe_at
closed_left p fds tree fd = go (slot fds p fd) refl
  where
    go : (o : Option Slot) → slot fds p fd ≡ o
        → AreLeft p (option_and_then (λ (named : Slot). pipe_in (description fds named.description)) o) fds (slot_closed tree fds (pair p fd) o).fds
    go None e = same_left p None fds
    go (Some own) e = released_left p fds tree fd (slot_small fds p fd own e).0 own
