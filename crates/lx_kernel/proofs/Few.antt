-- Turns that wake none but one that is told and those who are in a call on a pipe that was changed.
use Rattle.std.proofs.Common.{◌≡◌, ℕ, Bool, true, false, cond, List, [], ◌++◌, take, drop, length, Option, Some, None, refl, ap, sym, subst, ◌∙◌}
use Rattle.std.specs.Prelude.{◌==◌, ◌||◌, ◌&&◌, ◌^◌, ◌+◌, not, nat_lt, nat_le, min, is_some}
use Rattle.std.specs.Int.{w32, to_le_bytes}
use Rattle.std.specs.Option.{unwrap_or, option_and_then}
use Rattle.std.specs.FinMap as maps
use Rattle.containers.specs.Vacant.{vacant}
use Rattle.rv_mem.specs.Memory.{first_fault, bytes_at}
use Rattle.rv_mem.specs.declared.rights.Access.TheVariants as access
use Rattle.lx_abi.specs.Errnos.{enosys}
use Rattle.lx_abi.specs.Limits.{largest_file, most_moved, pipe_size}
use Rattle.lx_abi.specs.declared.log.Call.{Call}
use Rattle.lx_abi.specs.declared.log.Cause.TheVariants.{Sent}
use Rattle.lx_abi.specs.declared.log.Item.{Item}
use Rattle.lx_abi.specs.declared.outcome.Node.TheVariants.{File, Directory}
use Rattle.lx_abi.specs.declared.script.Choice.{Choice}
use Rattle.lx_model.specs.Machine.{Answer, Refused, Returns, Jumps, Execs, Bears, Blocks, Ends}
use Rattle.lx_model.specs.declared.event.PtraceEvent.{PtraceEvent}
use Rattle.lx_model.specs.declared.event.PtraceEvent.TheVariants.{Plain, Forked}
use Rattle.lx_model.specs.Turn.{Out, turn, killed_or, lives, answered}
use Rattle.lx_model.specs.declared.stage.Stage.{Stage}
use Rattle.lx_model.specs.declared.stage.Stage.TheVariants.{Born, Run, Faulting, Entered, Doing, Replaced, Acted, Finished, Taken, Dropped, Stopped, Released, Woken}
use Rattle.lx_model.specs.declared.stage.Task.{Task}
use Rattle.lx_model.specs.declared.stage.Task.TheVariants.{Alive, Dying, Gone}
use Rattle.lx_files.specs.Contents.{overwritten, length_after, padded_to}
use Rattle.lx_files.specs.Paths.{Path}
use Rattle.lx_files.specs.Places.{path_of, seen, is_dot, is_dot_dot}
use Rattle.lx_files.specs.Trees.{content, created, has_room, is_empty, with_content}
use Rattle.lx_files.specs.declared.places.Lookup.{Lookup}
use Rattle.lx_files.specs.declared.places.Lookup.TheVariants.{Absent, IsFile, IsDirectory, NotDirectory}
use Rattle.lx_files.specs.declared.places.Place.{Place}
use Rattle.lx_files.specs.declared.tree.Tree.{Tree}
use Rattle.lx_open.specs.Opens as opens
use Rattle.lx_open.specs.Releases.{AreEndsKept, closed, unlinked}
use Rattle.lx_open.specs.declared.description.Description.{Description}
use Rattle.lx_open.specs.declared.description.Object.{Object}
use Rattle.lx_open.specs.declared.description.Object.TheVariants.{Input, Console, ReadEnd, WriteEnd, Opened}
use Rattle.lx_open.specs.declared.description.Slot.{Slot}
use Rattle.lx_open.specs.declared.fd_table.FdTable.{FdTable}
use Rattle.lx_proc.proofs.Checks as checks
use Rattle.lx_proc.specs.Answers.{Answers, argument, low_argument, gives, granted}
use Rattle.lx_proc.specs.Sending.{receives}
use Rattle.lx_proc.specs.State.{changed, directory, with_entries, with_fds, with_held, with_tree}
use Rattle.lx_proc.specs.declared.state.Entry.{Entry}
use Rattle.lx_proc.specs.declared.state.Shared.{Shared}
use Rattle.lx_proc.specs.declared.state.UserState.{UserState}
use Rattle.lx_sig.specs.Pending.{with_pending}
use Rattle.lx_fcalls.proofs.FileAnswers.{with_files}
use Rattle.lx_fcalls.specs.Arguments.{opened, place_at}
use Rattle.lx_fcalls.specs.Calls.{file_call}
use Rattle.lx_fcalls.specs.Chdir.{chdir, goes_to}
use Rattle.lx_fcalls.specs.Close.{close}
use Rattle.lx_fcalls.specs.Dup.{dup}
use Rattle.lx_fcalls.specs.Flags.{is_within, has, o_creat, o_excl, o_cloexec, o_trunc, open_flags, access_of, at_removedir, at_symlink_nofollow, at_fdcwd}
use Rattle.lx_fcalls.specs.Fstat.{fstat, tells_object}
use Rattle.lx_fcalls.specs.Ftruncate.{ftruncate, truncates}
use Rattle.lx_fcalls.specs.Getcwd.{getcwd, shown}
use Rattle.lx_fcalls.specs.Lseek.{lseek, seeks, origin, landing}
use Rattle.lx_fcalls.specs.Mkdirat.{mkdirat, makes}
use Rattle.lx_fcalls.specs.Moving.{has_space}
use Rattle.lx_fcalls.specs.Newfstatat.{newfstatat, tells}
use Rattle.lx_fcalls.specs.Openat.{openat, opens_seen, opening, emptied_if}
use Rattle.lx_fcalls.specs.Pipe2.{pipe2, pipes, end_of, with_end}
use Rattle.lx_fcalls.specs.Read.{read, reads_object, waits as reading_waits}
use Rattle.lx_fcalls.specs.Unlinkat.{unlinkat, unlinks, removes_file, removes_directory, is_used, nameless, unless_nameless}
use Rattle.lx_fcalls.specs.Write.{write, writes_object, start_of, sigpipe}
use Rattle.lx_pcalls.specs.Calls.{process_call}
use Rattle.lx_pcalls.specs.Interruption.{is_interrupted, interruptible, blocks_or_returns}
use Rattle.lx_turn.specs.Calls.{does, called}
use Rattle.lx_turn.specs.Linux.{linux}
use Rattle.lx_turn.specs.Reactions.{is_killed}
use Rattle.lx_turn.specs.Turned.{Turned, turned}
use Rattle.lx_kernel.specs.Pipes.{pipe_of, pipe_in, pipe_at, used, is_narrow, changed_in}
use Rattle.lx_kernel.specs.Waking.{is_calm_number, is_few_number, is_few_task, few_after, IsFew, Calms, WakesFew, FewTurnsWakeFew, told_by, told_by_call, told_at, told_in}
use Rattle.lx_kernel.proofs.Awaiting.{AreSpared, awaits_on, all_same, directory_spared, signalled_spared}
use Rattle.lx_kernel.proofs.Blocked.{blocked_still, entry_other, quiet_same}
use Rattle.lx_kernel.proofs.Calming.{AnswerCalms, same_calm, ends_calm, lives_calm, does_calm, or_else, numbered}
use Rattle.lx_kernel.proofs.Ending.{burial_calm}
use Rattle.lx_kernel.proofs.Filing.{used_same}
use Rattle.lx_kernel.proofs.Narrowing.{AreLeft, waits_on, uses_on, free_small, same_left, then_left, offset_left, slot_left, opened_left, pipe_left, held_left, closed_left}

module _ (s : Shared) (child p told : ℕ) (changes : Option ℕ) where
  abbrev Leaves : Shared → PtraceEvent UserState → Type 0
  Leaves t event = WakesFew s t child p told changes event

  -- after a calm turn
  pub calm_few : (t : Shared) (event : PtraceEvent UserState) → Calms s t child p told event → Leaves t event
  calm_few t event calm = record {
    blocked = λ q up ne still unborn task apart h. calm.blocked q up ne still unborn task h;
    uses = λ q ne unborn task h. used_same s t q (λ fd. calm.pipes q fd ne unborn) task;
  }

  pub same_few : (event : PtraceEvent UserState) → Leaves s event
  same_few event = calm_few s event (same_calm s child p told event)

  -- where others have their entries, and use what they used
  left_few : (t : Shared) → AreLeft p changes s.fds t.fds → ((q : ℕ) → AreSpared s.entries t.entries q) → ((q : ℕ) → (q ≡ p → ⊥) → maps.get t.entries q ≡ maps.get s.entries q) → Leaves t Plain
  left_few t left spared same = record {
    blocked = λ q up ne still unborn task apart h.
        blocked_still s t q task
        (λ call b is. waits_on p changes s t left q ne call b (λ pipe c u. apart pipe c (ap (used s q) is ∙ u)))
        (awaits_on s t q (spared q)) (quiet_same (maps.get s.entries q) (maps.get t.entries q) (same q ne)) h;
    uses = λ q ne unborn task h. uses_on p changes s t left q ne task h;
  }

  -- a call on files changed no entry
  files_few : (tree : Tree) (fds : FdTable) (input console : List ℕ) → AreLeft p changes s.fds fds → Leaves (with_files s tree fds input console) Plain
  files_few tree fds input console left = left_few (with_files s tree fds input console) left (all_same s.entries) (λ q ne. refl)

  -- or its caller's directory
  goes_few : (path : Path) → Leaves (with_entries s (changed s.entries p (λ e. record e { directory = path }))) Plain
  goes_few path =
      let f = λ (e : Entry). record e { directory = path } in
      left_few (with_entries s (changed s.entries p f)) (same_left p changes s.fds) (λ q. directory_spared s.entries p q path) (λ q ne. entry_other s.entries p q f (maps.get s.entries p) ne)

  -- or its caller's signals
  breaks_few : Leaves (with_entries s (changed s.entries p (λ e. receives e sigpipe (Sent p)))) Plain
  breaks_few =
      let f = λ (e : Entry). receives e sigpipe (Sent p) in
      left_few (with_entries s (changed s.entries p f)) (same_left p changes s.fds)
      (λ q. signalled_spared s.entries p q (λ e. with_pending e.signals sigpipe (Sent p))) (λ q ne. entry_other s.entries p q f (maps.get s.entries p) ne)

  abbrev AnswerFew : Answers → Type 0
  AnswerFew (Refused e) = Unit {0}
  AnswerFew (Returns t b x) = Leaves t Plain
  AnswerFew (Jumps t b) = ⊥
  AnswerFew (Execs t b) = ⊥
  AnswerFew (Bears t b newborn) = ⊥
  AnswerFew Blocks = Unit {0}
  AnswerFew (Ends w) = Unit {0}

  blocked_few : (b : UserState) (interrupted : Bool) → AnswerFew (blocks_or_returns s b interrupted)
  blocked_few b true = same_few Plain
  blocked_few b false = tt

  interrupted_few : (b : UserState) (a : Answers) → AnswerFew a → AnswerFew (interruptible s p b a)
  interrupted_few b (Refused e) h = h
  interrupted_few b (Returns t c x) h = h
  interrupted_few b (Jumps t c) h = h
  interrupted_few b (Execs t c) h = h
  interrupted_few b (Bears t c newborn) h = h
  interrupted_few b Blocks h = blocked_few b (is_interrupted (maps.get s.entries p))
  interrupted_few b (Ends w) h = h

-- Calls on files

module _ (s : Shared) (child p : ℕ) (call : Call) (b : UserState) where
  abbrev N : ℕ
  N = call.number

  abbrev told : ℕ
  told = told_by_call p call

  abbrev fd : ℕ
  fd = low_argument call 0

  abbrev changes : Option ℕ
  changes = pipe_at s.fds p fd

  abbrev P : Answers → Type 0
  P a = AnswerFew s child p told changes a

  tree_few : (tree : Tree) (x : ℕ) → P (Returns (with_tree s tree) b x)
  tree_few tree x = files_few s child p told changes tree s.fds s.input s.console (same_left p changes s.fds)

  given_few : (t : Shared) (at : ℕ) (bytes : List ℕ) (x : ℕ) → WakesFew s t child p told changes Plain → P (gives t b at bytes x)
  given_few t at bytes x few = checks.either P (is_some (first_fault access.Write b.memory at (length bytes))) _ _ (λ fault. tt) (λ whole. few)

  told_few : (at : ℕ) (bytes : List ℕ) (x : ℕ) → P (gives s b at bytes x)
  told_few at bytes x = given_few s at bytes x (same_few s child p told changes Plain)

  placed_few : (dirfd at : ℕ) (f : Place → Answers) → ((place : Place) → P (f place)) → P (granted (place_at s p b dirfd at) f)
  placed_few dirfd at f each = checks.allowed P (place_at s p b dirfd at) f (checks.of_any (λ e. P (Refused e)) (λ e. tt) (place_at s p b dirfd at)) (λ place is. each place)

  -- a descriptor that is open, its description, and the pipe that it is of
  opened_few : (f : Slot → Description → Answers) → ((named : Slot) (d : Description) → changes ≡ pipe_of d.object → P (f named d)) → P (opened s p fd f)
  unfolding pipe_at
  opened_few f each =
      checks.named P (opens.slot s.fds p fd) _ _ tt (λ named is.
      checks.named P (opens.description s.fds named.description) _ _ tt (λ d there.
      each named d (ap (option_and_then (λ (x : Slot). pipe_in (opens.description s.fds x.description))) is ∙ ap pipe_in there)))

  close_few : P (close s p call b)
  unfolding close
  close_few =
      let left = closed s.tree s.fds p fd in
      checks.named P (opens.slot s.fds p fd) _ _ tt (λ named is.
      files_few s child p told changes left.tree left.fds s.input s.console (closed_left p s.fds s.tree fd))

  dup_few : P (dup s p call b)
  unfolding dup
  dup_few =
      checks.named P (opens.slot s.fds p fd) _ _ tt (λ named is.
      checks.named P (opens.free s.fds.slots p) _ _ tt (λ to free.
      let copy : Slot = record { description = named.description; closes_on_exec = false } in
      files_few s child p told changes s.tree (opens.with_slot s.fds p to copy) s.input s.console (slot_left p changes s.fds to copy (free_small s.fds.slots p to free))))

  -- two new descriptions, and their pipe
  pipes_few : (at : ℕ) (closes : Bool) → P (pipes s p b at closes (vacant s.fds.pipes))
  pipes_few at closes =
      let pipe = vacant s.fds.pipes in
      let piped : FdTable = opens.with_pipe s.fds pipe [] in
      checks.named P (opens.free s.fds.slots p) _ _ tt (λ first free.
      let one : FdTable = with_end piped p first (ReadEnd pipe) true closes in
      checks.named P (opens.free one.slots p) _ _ tt (λ second also_free.
      let two : FdTable = with_end one p second (WriteEnd pipe) false closes in
      given_few (with_fds s two) at (to_le_bytes w32 first ++ to_le_bytes w32 second) 0
      (files_few s child p told changes s.tree two s.input s.console
      (then_left p changes s.fds piped two (pipe_left p changes s.fds)
      (then_left p changes piped one two
      (opened_left p changes piped first (end_of (ReadEnd pipe) true) closes (free_small s.fds.slots p first free))
      (opened_left p changes one second (end_of (WriteEnd pipe) false) closes (free_small one.slots p second also_free)))))))

  pipe2_few : P (pipe2 s p call b)
  unfolding pipe2
  pipe2_few = checks.checked P (is_within (argument call 1) o_cloexec) _ _ tt (λ known. pipes_few (argument call 0) (has (argument call 1) o_cloexec))

  moved_few : (named : Slot) (offset x : ℕ) (tree : Tree) → P (Returns (with_files s tree (opens.with_offset s.fds named.description offset) s.input s.console) b x)
  moved_few named offset x tree = files_few s child p told changes tree (opens.with_offset s.fds named.description offset) s.input s.console (offset_left p changes s.fds named.description offset)

  seeks_few : (named : Slot) (d : Description) (by whence : ℕ) (o : Object) → P (seeks s b named d by whence o)
  seeks_few named d by whence Input = tt
  seeks_few named d by whence Console = tt
  seeks_few named d by whence (ReadEnd pipe) = tt
  seeks_few named d by whence (WriteEnd pipe) = tt
  seeks_few named d by whence (Opened node) =
      checks.named P (origin s d node whence) _ _ tt (λ from is.
      checks.named P (landing from by) _ _ tt (λ to is. moved_few named to to s.tree))

  lseek_few : P (lseek s p call b)
  unfolding lseek
  lseek_few = opened_few _ (λ named d uses. checks.checked P (nat_lt (argument call 2) 3) _ _ tt (λ known. seeks_few named d (argument call 1) (argument call 2) d.object))

  reads_few : (named : Slot) (d : Description) (at n : ℕ) (o : Object) → changes ≡ pipe_of o → P (reads_object s b named d at n o)
  reads_few named d at n Input uses =
      given_few (with_files s s.tree s.fds (drop n s.input) s.console) at (take n s.input) (length (take n s.input))
      (files_few s child p told changes s.tree s.fds (drop n s.input) s.console (same_left p changes s.fds))
  reads_few named d at n Console uses = tt
  reads_few named d at n (ReadEnd pipe) uses =
      let left : FdTable = opens.with_held s.fds pipe (drop n) in
      checks.either P (reading_waits s.fds pipe n) _ _ (λ waits. tt) (λ there.
      given_few (with_files s s.tree left s.input s.console) at (take n (opens.held s.fds pipe)) (length (take n (opens.held s.fds pipe))) (files_few s child p told changes s.tree left s.input s.console (subst (λ c. AreLeft p c s.fds left) (sym uses) (held_left p s.fds pipe (drop n)))))
  reads_few named d at n (WriteEnd pipe) uses = tt
  reads_few named d at n (Opened node) uses =
      let bytes = take n (drop d.offset (content s.tree node)) in
      given_few (with_files s s.tree (opens.with_offset s.fds named.description (d.offset + length bytes)) s.input s.console) at bytes (length bytes) (moved_few named (d.offset + length bytes) 0 s.tree)

  read_few : P (read s p call b)
  unfolding read
  read_few = opened_few _ (λ named d uses. checks.checked P d.may_read _ _ tt (λ may. reads_few named d (argument call 1) (min (argument call 2) most_moved) d.object uses))

  writes_few : (named : Slot) (d : Description) (bytes : List ℕ) (o : Object) → changes ≡ pipe_of o → P (writes_object s p b named d bytes o)
  writes_few named d bytes Input uses = tt
  writes_few named d bytes Console uses =
      checks.checked P (has_space s 0 (length bytes)) _ _ tt (λ room. files_few s child p told changes s.tree s.fds s.input (s.console ++ bytes) (same_left p changes s.fds))
  writes_few named d bytes (ReadEnd pipe) uses = tt
  writes_few named d bytes (WriteEnd pipe) uses =
      let left : FdTable = opens.with_held s.fds pipe (λ there. there ++ bytes) in
      checks.either P (not (opens.has_readers s.fds pipe)) _ _ (λ broken. breaks_few s child p told changes) (λ whole.
      checks.either P (nat_lt pipe_size (length (opens.held s.fds pipe) + length bytes)) _ _ (λ full. tt) (λ fits.
      files_few s child p told changes s.tree left s.input s.console (subst (λ c. AreLeft p c s.fds left) (sym uses) (held_left p s.fds pipe (λ there. there ++ bytes)))))
  writes_few named d bytes (Opened node) uses =
      let at = start_of s d node in
      let old = length (content s.tree node) in
      checks.either P (length bytes == 0) _ _ (λ none. same_few s child p told changes Plain) (λ some.
      checks.checked P (nat_le (at + length bytes) largest_file) _ _ tt (λ small.
      checks.checked P (has_space s old (length_after old at (length bytes))) _ _ tt (λ room.
      moved_few named (at + length bytes) (length bytes) (with_content s.tree node (λ old. overwritten old at bytes)))))

  write_few : P (write s p call b)
  unfolding write
  write_few =
      let n = min (argument call 2) most_moved in
      let at = argument call 1 in
      opened_few _ (λ named d uses.
      checks.checked P d.may_write _ _ tt (λ may.
      checks.either P (is_some (first_fault access.Read b.memory at n)) _ _ (λ fault. tt) (λ whole.
      writes_few named d (bytes_at b.memory at n) d.object uses)))

  opens_few : (flags : ℕ) (tree : Tree) (node to : ℕ) → opens.free s.fds.slots p ≡ Some to
      → P (Returns (record s { tree = tree; fds = opens.opened s.fds p to (opening node flags) (has flags o_cloexec) }) b to)
  opens_few flags tree node to free =
      files_few s child p told changes tree (opens.opened s.fds p to (opening node flags) (has flags o_cloexec)) s.input s.console
      (opened_left p changes s.fds to (opening node flags) (has flags o_cloexec) (free_small s.fds.slots p to free))

  seen_few : (flags : ℕ) (place : Place) (sight : Lookup) → P (opens_seen s p b flags place sight)
  seen_few flags place Absent =
      checks.checked P (has flags o_creat) _ _ tt (λ creates.
      checks.checked P (not place.slashed) _ _ tt (λ plain.
      checks.named P (opens.free s.fds.slots p) _ _ tt (λ to free.
      checks.checked P (has_room s.tree) _ _ tt (λ room. opens_few flags (created s.tree (path_of place) (File [])) (vacant s.tree.nodes) to free))))
  seen_few flags place IsFile =
      checks.checked P (not (has flags o_creat && has flags o_excl)) _ _ tt (λ may.
      checks.named P (opens.free s.fds.slots p) _ _ tt (λ to free.
      checks.named P (maps.get s.tree.names (path_of place)) _ _ tt (λ node is. opens_few flags (emptied_if (has flags o_trunc) s.tree node) node to free)))
  seen_few flags place IsDirectory = tt
  seen_few flags place NotDirectory = tt

  openat_few : P (openat s p call b)
  unfolding openat
  openat_few =
      checks.checked P (is_within (argument call 2) open_flags && not (access_of (argument call 2) == 3)) _ _ tt (λ known.
      placed_few (low_argument call 0) (argument call 1) _ (λ place. seen_few (argument call 2) place (seen s.tree place)))

  shows_few : (at : ℕ) (o : Object) → P (tells_object s b at o)
  shows_few at Input = told_few at _ _
  shows_few at Console = told_few at _ _
  shows_few at (ReadEnd pipe) = told_few at _ _
  shows_few at (WriteEnd pipe) = told_few at _ _
  shows_few at (Opened node) = told_few at _ _

  fstat_few : P (fstat s p call b)
  unfolding fstat
  fstat_few = opened_few _ (λ named d uses. shows_few (argument call 1) d.object)

  tells_few : (at : ℕ) (path : List ℕ) (sight : Lookup) → P (tells s b at path sight)
  tells_few at path Absent = tt
  tells_few at path IsFile = told_few at _ _
  tells_few at path IsDirectory = told_few at _ _
  tells_few at path NotDirectory = tt

  newfstatat_few : P (newfstatat s p call b)
  unfolding newfstatat
  newfstatat_few =
      checks.checked P (is_within (argument call 3) at_symlink_nofollow) _ _ tt (λ known.
      placed_few (low_argument call 0) (argument call 1) _ (λ place. tells_few (argument call 2) (path_of place) (seen s.tree place)))

  getcwd_few : P (getcwd s p call b)
  unfolding getcwd
  getcwd_few = checks.checked P (nat_le (length (shown (directory s p))) (argument call 1)) _ _ tt (λ fits. told_few _ _ _)

  goes_to_few : (path : Path) (sight : Lookup) → P (goes_to s p b path sight)
  goes_to_few path Absent = tt
  goes_to_few path IsFile = tt
  goes_to_few path NotDirectory = tt
  goes_to_few path IsDirectory = goes_few s child p told changes path

  chdir_few : P (chdir s p call b)
  unfolding chdir
  chdir_few = placed_few at_fdcwd (argument call 0) _ (λ place. goes_to_few (path_of place) (seen s.tree place))

  makes_few : (path : Path) (sight : Lookup) → P (makes s b path sight)
  makes_few path Absent = checks.checked P (has_room s.tree) _ _ tt (λ room. tree_few (created s.tree path Directory) 0)
  makes_few path IsFile = tt
  makes_few path IsDirectory = tt
  makes_few path NotDirectory = tt

  mkdirat_few : P (mkdirat s p call b)
  unfolding mkdirat
  mkdirat_few = placed_few (low_argument call 0) (argument call 1) _ (λ place. makes_few (path_of place) (seen s.tree place))

  truncates_few : (n : ℕ) (o : Object) → P (truncates s b n o)
  truncates_few n Input = tt
  truncates_few n Console = tt
  truncates_few n (ReadEnd pipe) = tt
  truncates_few n (WriteEnd pipe) = tt
  truncates_few n (Opened node) =
      checks.checked P (nat_le n largest_file) _ _ tt (λ small.
      checks.checked P (has_space s (length (content s.tree node)) n) _ _ tt (λ room. tree_few (with_content s.tree node (padded_to n)) 0))

  ftruncate_few : P (ftruncate s p call b)
  unfolding ftruncate
  ftruncate_few =
      checks.checked P (nat_lt (argument call 1) (2 ^ 63)) _ _ tt (λ signed.
      opened_few _ (λ named d uses. checks.checked P d.may_write _ _ tt (λ may. truncates_few (argument call 1) d.object)))

  removes_file_few : (path : List ℕ) (sight : Lookup) → P (removes_file s b path sight)
  removes_file_few path Absent = tt
  removes_file_few path IsFile = tree_few (unlinked s.tree s.fds path) 0
  removes_file_few path IsDirectory = tt
  removes_file_few path NotDirectory = tt

  removes_directory_few : (path : List ℕ) (sight : Lookup) → P (removes_directory s b path sight)
  removes_directory_few path Absent = tt
  removes_directory_few path IsFile = tt
  removes_directory_few path NotDirectory = tt
  removes_directory_few path IsDirectory =
      checks.checked P (is_empty s.tree path) _ _ tt (λ empty.
      checks.checked P (not (is_used s path)) _ _ tt (λ unused. tree_few (unlinked s.tree s.fds path) 0))

  unless_few : (o : Option ℕ) (a : Answers) → P a → P (unless_nameless o a)
  unless_few None a h = h
  unless_few (Some e) a h = tt

  unlinks_few : (directories : Bool) (place : Place) → P (unlinks s b directories place)
  unlinks_few true place = unless_few _ _ (removes_directory_few (path_of place) (seen s.tree place))
  unlinks_few false place = unless_few _ _ (removes_file_few (path_of place) (seen s.tree place))

  unlinkat_few : P (unlinkat s p call b)
  unfolding unlinkat
  unlinkat_few =
      checks.checked P (is_within (argument call 2) at_removedir) _ _ tt (λ known.
      placed_few (low_argument call 0) (argument call 1) _ (λ place. unlinks_few (has (argument call 2) at_removedir) place))

  -- by number

  by_number : (a : Answers) → file_call s p call b ≡ Some a → P a → P (called s child p call b)
  by_number a is h = subst (λ o. P (unwrap_or o (unwrap_or (process_call s child p call b) (Refused enosys)))) (sym is) h

  abbrev Goal : Type 0
  Goal = P (called s child p call b)

  narrow_called : is_narrow N ≡ true → Goal
  unfolding file_call
  narrow_called e =
      or_else Goal (N == 63) _ e (λ h. let is = numbered N 63 h in by_number (read s p call b) (rw is refl) read_few) (λ e.
      or_else Goal (N == 64) _ e (λ h. let is = numbered N 64 h in by_number (write s p call b) (rw is refl) write_few) (λ e.
      or_else Goal (N == 57) _ e (λ h. let is = numbered N 57 h in by_number (close s p call b) (rw is refl) close_few) (λ e.
      or_else Goal (N == 56) _ e (λ h. let is = numbered N 56 h in by_number (openat s p call b) (rw is refl) openat_few) (λ e.
      or_else Goal (N == 62) _ e (λ h. let is = numbered N 62 h in by_number (lseek s p call b) (rw is refl) lseek_few) (λ e.
      or_else Goal (N == 79) _ e (λ h. let is = numbered N 79 h in by_number (newfstatat s p call b) (rw is refl) newfstatat_few) (λ e.
      or_else Goal (N == 80) _ e (λ h. let is = numbered N 80 h in by_number (fstat s p call b) (rw is refl) fstat_few) (λ e.
      or_else Goal (N == 23) _ e (λ h. let is = numbered N 23 h in by_number (dup s p call b) (rw is refl) dup_few) (λ e.
      or_else Goal (N == 59) _ e (λ h. let is = numbered N 59 h in by_number (pipe2 s p call b) (rw is refl) pipe2_few) (λ e.
      or_else Goal (N == 17) _ e (λ h. let is = numbered N 17 h in by_number (getcwd s p call b) (rw is refl) getcwd_few) (λ e.
      or_else Goal (N == 49) _ e (λ h. let is = numbered N 49 h in by_number (chdir s p call b) (rw is refl) chdir_few) (λ e.
      or_else Goal (N == 34) _ e (λ h. let is = numbered N 34 h in by_number (mkdirat s p call b) (rw is refl) mkdirat_few) (λ e.
      or_else Goal (N == 35) _ e (λ h. let is = numbered N 35 h in by_number (unlinkat s p call b) (rw is refl) unlinkat_few) (λ h.
      let is = numbered N 46 h in by_number (ftruncate s p call b) (rw is refl) ftruncate_few)))))))))))))

  pub narrow_does : is_narrow N ≡ true → P (does s child p call b)
  unfolding does
  narrow_does e = interrupted_few s child p told changes b (called s child p call b) (narrow_called e)

-- Turns

abbrev OutFew : Shared → ℕ → ℕ → Task UserState → Out Shared UserState → Type 0
OutFew s child p task o = IsFew s child task o.shared o.task → WakesFew s o.shared child p (told_in s p task) (changed_in s p task) o.event

answered_few : (s : Shared) (child p : ℕ) (b : UserState) (call : Call) (a : Answer Shared UserState)
    → (is_narrow call.number ≡ true → AnswerFew s child p (told_by_call p call) (pipe_at s.fds p (low_argument call 0)) a)
    → (is_calm_number s child call.number ≡ true → AnswerCalms s child p (told_by_call p call) a)
    → OutFew s child p (Alive b (Doing call)) (answered linux s child p b call a)
answered_few s child p b call (Refused x) narrow calm = λ e. same_few s child p (told_by_call p call) (pipe_at s.fds p (low_argument call 0)) Plain
answered_few s child p b call (Returns t c x) narrow calm = λ e.
    let changes = pipe_at s.fds p (low_argument call 0) in
    or_else (WakesFew s t child p (told_by_call p call) changes Plain) (is_narrow call.number) (is_calm_number s child call.number) e narrow
    (λ h. calm_few s child p (told_by_call p call) changes t Plain (calm h))
answered_few s child p b call (Jumps t c) narrow calm = λ e.
    let changes = pipe_at s.fds p (low_argument call 0) in
    or_else (WakesFew s t child p (told_by_call p call) changes Plain) (is_narrow call.number) (is_calm_number s child call.number) e (λ h. absurd (narrow h))
    (λ h. calm_few s child p (told_by_call p call) changes t Plain (calm h))
answered_few s child p b call (Execs t c) narrow calm = λ e.
    absurd (or_else ⊥ (is_narrow call.number) (is_calm_number s child call.number) e narrow calm)
answered_few s child p b call (Bears t c born) narrow calm = λ e.
    let changes = pipe_at s.fds p (low_argument call 0) in
    or_else (WakesFew s t child p (told_by_call p call) changes (Forked born)) (is_narrow call.number) (is_calm_number s child call.number) e (λ h. absurd (narrow h))
    (λ h. calm_few s child p (told_by_call p call) changes t (Forked born) (calm h))
answered_few s child p b call Blocks narrow calm = λ e. same_few s child p (told_by_call p call) (pipe_at s.fds p (low_argument call 0)) Plain
answered_few s child p b call (Ends w) narrow calm = λ e.
    calm_few s child p (told_by_call p call) (pipe_at s.fds p (low_argument call 0)) _ Plain (ends_calm s child p (told_by_call p call) w e)

module _ (c : Choice) (s : Shared) (child p : ℕ) (b : UserState) where
  -- from where a turn is calm whatever it does
  from_calm : (stage : Stage) (o : Out Shared UserState) → Calms s o.shared child p (told_at s p stage) o.event
      → WakesFew s o.shared child p (told_at s p stage) (changed_in s p (Alive b stage)) o.event
  from_calm stage o calm = calm_few s child p (told_at s p stage) (changed_in s p (Alive b stage)) o.shared o.event calm

  lives_few : (stage : Stage) → OutFew s child p (Alive b stage) (lives linux c s child p b stage)
  lives_few Born = λ e. from_calm Born (lives linux c s child p b Born) (lives_calm c s child p b Born e)
  lives_few Run = λ e. from_calm Run (lives linux c s child p b Run) (lives_calm c s child p b Run e)
  lives_few (Faulting signal cause) = λ e. from_calm (Faulting signal cause) (lives linux c s child p b (Faulting signal cause)) (lives_calm c s child p b (Faulting signal cause) e)
  lives_few (Entered joined) = λ e. from_calm (Entered joined) (lives linux c s child p b (Entered joined)) (lives_calm c s child p b (Entered joined) e)
  lives_few (Doing call) = answered_few s child p b call (does s child p call b) (narrow_does s child p call b) (does_calm s child p call b)
  lives_few (Replaced call x) = λ e. from_calm (Replaced call x) (lives linux c s child p b (Replaced call x)) (lives_calm c s child p b (Replaced call x) e)
  lives_few (Acted call x replaced) = λ e. from_calm (Acted call x replaced) (lives linux c s child p b (Acted call x replaced)) (lives_calm c s child p b (Acted call x replaced) e)
  lives_few Finished = λ e. from_calm Finished (lives linux c s child p b Finished) (lives_calm c s child p b Finished e)
  lives_few (Taken signal cause) = λ e. from_calm (Taken signal cause) (lives linux c s child p b (Taken signal cause)) (lives_calm c s child p b (Taken signal cause) e)
  lives_few Dropped = λ e. from_calm Dropped (lives linux c s child p b Dropped) (lives_calm c s child p b Dropped e)
  lives_few (Stopped signal) = λ e. from_calm (Stopped signal) (lives linux c s child p b (Stopped signal)) (lives_calm c s child p b (Stopped signal) e)
  lives_few Released = λ e. from_calm Released (lives linux c s child p b Released) (lives_calm c s child p b Released e)
  lives_few Woken = λ e. from_calm Woken (lives linux c s child p b Woken) (lives_calm c s child p b Woken e)

  killed_few : (killed : Bool) (stage : Stage) → OutFew s child p (Alive b stage) (killed_or killed linux c s child p b stage)
  killed_few true stage = λ e. calm_few s child p (told_at s p stage) (changed_in s p (Alive b stage)) _ Plain (ends_calm s child p (told_at s p stage) 9 e)
  killed_few false stage = lives_few stage

pub turn_few : FewTurnsWakeFew
turn_few c s child p (Alive b stage) = killed_few c s child p b (is_killed (maps.get s.entries p)) stage
turn_few c s child p (Dying w) = λ e. calm_few s child p (told_by p (maps.get s.entries p)) None _ Plain (burial_calm s child p w)
turn_few c s child p Gone = λ e. same_few s child p p None Plain

-- what code looks at before a turn and after it
pub few_is : (s s' : Shared) (child : ℕ) (task task' : Task UserState) (few ends_kept : Bool) → few ≡ is_few_task s child task → (ends_kept ≡ true → AreEndsKept s.fds s'.fds)
    → few_after task' few ends_kept ≡ true → IsFew s child task s' task'
few_is s s' child task (Alive c next) few ends_kept is kept e = sym is ∙ e
few_is s s' child task (Dying w) few ends_kept is kept e = kept e
few_is s s' child task Gone few ends_kept is kept e = tt

pub taken_few : (c : Choice) (s s' : Shared) (child p : ℕ) (task task' : Task UserState) (item : Option Item) (event : PtraceEvent UserState) → turned (turn linux c s child p task) ≡ record { shared = s'; task = task'; item = item; event = event }
    → IsFew s child task s' task' → WakesFew s s' child p (told_in s p task) (changed_in s p task) event
taken_few c s s' child p task task' item event is =
    subst (λ (x : Turned). IsFew s child task x.shared x.task → WakesFew s x.shared child p (told_in s p task) (changed_in s p task) x.event) is (turn_few c s child p task)
