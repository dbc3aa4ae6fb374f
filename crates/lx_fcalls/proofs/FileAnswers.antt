-- What holds of each answer of a call on files: it refuses, waits, or changes the files and pipes, bytes of its
-- caller's memory or its caller's entry alone.
use Rattle.std.proofs.Common.{◌≡◌, refl, ℕ, ◌&&◌, Bool, true, false, cond, List, [], ◌++◌, length, Option, Some, None, sym, subst, arith}
use Rattle.std.proofs.lemmas.Bool.Decides.{nat_tests}
use Rattle.std.specs.Prelude.{◌||◌, not, nat_lt, nat_le, ◌==◌, ◌^◌, ◌+◌}
use Rattle.std.specs.Option.{unwrap_or}
use Rattle.std.specs.FinMap as maps
use Rattle.std.specs.declared.result.Result.TheVariants.{Err}
use Rattle.lx_abi.specs.declared.log.Call.{Call}
use Rattle.containers.specs.Vacant.{vacant}
use Rattle.lx_abi.specs.Errnos.{ebadf, ebusy, eexist, efault, efbig, einval, eisdir, emfile, enametoolong, enoent, enospc, enotdir, enotempty, epipe, erange, espipe}
use Rattle.lx_abi.specs.Limits.{path_limit, largest_file, most_moved, pipe_size, most_fds}
use Rattle.lx_model.specs.Machine.{Refused, Returns, Blocks}
use Rattle.lx_files.specs.Trees.{content, has_room, is_empty}
use Rattle.lx_files.specs.Paths.{Path}
use Rattle.lx_files.specs.Places.{is_absolute, is_dot, is_dot_dot, path_of, place, seen}
use Rattle.lx_files.specs.declared.places.Place.{Place}
use Rattle.lx_files.specs.declared.places.Lookup.{Lookup}
use Rattle.lx_files.specs.declared.places.Lookup.TheVariants.{Absent, IsFile, IsDirectory, NotDirectory}
use Rattle.lx_open.specs.Opens as opens
use Rattle.lx_open.specs.declared.description.Object.{Object}
use Rattle.lx_open.specs.declared.description.Object.TheVariants.{Input, Console, ReadEnd, WriteEnd, Opened}
use Rattle.lx_open.specs.declared.description.Description.{Description}
use Rattle.lx_open.specs.declared.description.Slot.{Slot}
use Rattle.lx_proc.specs.declared.state.Shared.{Shared}
use Rattle.lx_proc.specs.declared.state.UserState.{UserState}
use Rattle.lx_open.specs.declared.fd_table.FdTable.{FdTable}
use Rattle.std.specs.Int.{w32, to_le_bytes}
use Rattle.lx_proc.specs.State.{directory, with_entries, with_memory, changed}
use Rattle.lx_files.specs.declared.tree.Tree.{Tree}
use Rattle.lx_proc.specs.Answers.{Answers, argument, low_argument, gives}
use Rattle.lx_proc.specs.Sending.{sent}
use Rattle.lx_abi.specs.Errors.{error_word}
use Rattle.lx_abi.specs.declared.log.Cause.TheVariants.{Sent}
use Rattle.lx_proc.specs.Refusals.{is_error_of}
use Rattle.lx_proc.specs.Texts.{Text, Whole, TooLong, Unreadable, text_at}
use Rattle.lx_fcalls.specs.Flags.{is_within, has, o_creat, o_excl, o_cloexec, open_flags, access_of, at_removedir, at_symlink_nofollow, at_fdcwd}
use Rattle.lx_fcalls.specs.Errors.{file_errors}
use Rattle.lx_fcalls.specs.Arguments.{may_begin, opened, place_at, place_from, read_text}
use Rattle.lx_fcalls.specs.Close.{close}
use Rattle.lx_fcalls.specs.Dup.{dup}
use Rattle.lx_fcalls.specs.Dup3.{dup3}
use Rattle.lx_fcalls.specs.Openat.{openat, opens_seen}
use Rattle.lx_fcalls.specs.Pipe2.{pipe2, with_end}
use Rattle.lx_fcalls.specs.Ftruncate.{ftruncate, truncates}
use Rattle.lx_fcalls.specs.Lseek.{lseek, seeks, origin, landing}
use Rattle.lx_files.specs.Contents.{length_after}
use Rattle.lx_fcalls.specs.Moving.{has_space}
use Rattle.lx_fcalls.specs.Read.{read, reads_object, waits as reading_waits}
use Rattle.lx_fcalls.specs.Write.{write, writes_object, start_of, sigpipe}
use Rattle.lx_fcalls.specs.Chdir.{chdir, goes_to}
use Rattle.lx_fcalls.specs.Getcwd.{getcwd, shown}
use Rattle.lx_fcalls.specs.Mkdirat.{mkdirat, makes}
use Rattle.lx_fcalls.specs.Unlinkat.{unlinkat, removes_file, removes_directory, is_used, nameless, unless_nameless, unlinks}
use Rattle.lx_fcalls.specs.Fstat.{fstat, tells_object}
use Rattle.lx_fcalls.specs.Newfstatat.{newfstatat, tells}
use Rattle.lx_fcalls.specs.Calls.{file_call}
use Rattle.std.specs.Prelude.{min, is_some}
use Rattle.rv_mem.specs.Memory.{first_fault, bytes_at, written}
use Rattle.rv_mem.specs.declared.rights.Access.TheVariants as access
use Rattle.lx_proc.proofs.Checks as checks
use Rattle.lx_proc.proofs.Placing as placing

-- all that a call on files may change of what processes share, but for its caller's entry
abbrev pub with_files : Shared → Tree → FdTable → List ℕ → List ℕ → Shared
with_files s tree fds input console = record s { tree = tree; fds = fds; input = input; console = console }

-- what is to be shown of a property, that it hold of each answer of a call on files
pub record OfFiles (s : Shared) (p : ℕ) (call : Call) (b : UserState) (P : Answers → Type 0) : Type 0 where
  -- with an error of the call's row
  pub refuses : (e : ℕ) → is_error_of file_errors call.number e ≡ true → P (Refused e)
  pub waits : (call.number == 63 || call.number == 64) ≡ true → P Blocks
  pub returns : (tree : Tree) (fds : FdTable) (input console : List ℕ) (x : ℕ) → P (Returns (with_files s tree fds input console) b x)
  -- the same, and bytes in the caller's memory
  pub writes : (tree : Tree) (fds : FdTable) (input console : List ℕ) (at : ℕ) (bytes : List ℕ) (x : ℕ) → P (Returns (with_files s tree fds input console) (with_memory b (written b.memory at bytes)) x)
  -- the caller's entry alone: its directory, or SIGPIPE
  pub goes : (path : Path) → P (Returns (with_entries s (changed s.entries p (λ e. record e { directory = path }))) b 0)
  pub breaks : P (Returns (with_entries s (sent s.entries p sigpipe (Sent p))) b (error_word epipe))

-- of a call that may be another's
abbrev pub HoldsIf : (Answers → Type 0) → Option Answers → Type 0
HoldsIf P None = Unit {0}
HoldsIf P (Some a) = P a

left_is : (x y : Bool) → x ≡ true → (x || y) ≡ true
left_is true y h = refl
left_is false y h = absurd (cc h)

right_is : (x y : Bool) → y ≡ true → (x || y) ≡ true
right_is true y h = refl
right_is false y h = h

number_is : (n m : ℕ) → (n == m) ≡ true → n ≡ m
number_is n m h = grind (arith, nat_tests)

or_true : (x : Bool) → (x || true) ≡ false → ⊥
or_true true h = cc h
or_true false h = cc h

module _ (s : Shared) (p : ℕ) (call : Call) (b : UserState) (P : Answers → Type 0) (of : OfFiles s p call b P) where
  abbrev Is : ℕ → Type 0
  Is n = (call.number == n) ≡ true

  -- an error that stands in the row of a call
  no : (n : ℕ) → Is n → (e : ℕ) → is_error_of file_errors n e ≡ true → P (Refused e)
  no n is e listed = of.refuses e (subst (λ m. is_error_of file_errors m e ≡ true) (sym (number_is call.number n is)) listed)

  left : {tree : Tree} {fds : FdTable} {input console : List ℕ} {x : ℕ} → P (Returns (with_files s tree fds input console) b x)
  left {tree = tree} {fds = fds} {input = input} {console = console} {x = x} = of.returns tree fds input console x

  told : P (Refused efault) → (tree : Tree) (fds : FdTable) (input console : List ℕ) (at : ℕ) (bytes : List ℕ) (x : ℕ) → P (gives (with_files s tree fds input console) b at bytes x)
  told fault tree fds input console at bytes x =
      checks.either P (is_some (first_fault access.Write b.memory at (length bytes))) _ _ (λ is. fault) (λ whole. of.writes tree fds input console at bytes x)

  -- paths

  abbrev Refuses : ℕ → Type 0
  Refuses e = P (Refused e)

  read_error : P (Refused efault) → P (Refused enametoolong) → (t : Text) → checks.OfError Refuses (read_text t)
  read_error fault long (Whole text) = tt
  read_error fault long TooLong = long
  read_error fault long Unreadable = fault

  from_error : (tree : Tree) (directory text : List ℕ) (begins : Bool) → (begins ≡ false → P (Refused ebadf)) → checks.OfError Refuses (place tree directory text) →
      checks.OfError Refuses (cond begins (place tree directory text) (Err ebadf))
  from_error tree directory text true bad h = h
  from_error tree directory text false bad h = bad refl

  -- a path's errors, and EBADF of where it begins
  at_error : (n : ℕ) → Is n → (efaults : is_error_of file_errors n efault ≡ true) (long : is_error_of file_errors n enametoolong ≡ true) (absent : is_error_of file_errors n enoent ≡ true) (barred : is_error_of file_errors n enotdir ≡ true)
      → (dirfd at : ℕ) → ((text : List ℕ) → may_begin dirfd text ≡ false → P (Refused ebadf)) → checks.OfError Refuses (place_at s p b dirfd at)
  at_error n is efaults long absent barred dirfd at bad =
      placing.then_error Refuses (place_from s p dirfd) _ (read_error (no n is _ efaults) (no n is _ long) (text_at b.memory path_limit at)) (λ text.
      from_error s.tree (directory s p) text (may_begin dirfd text) (bad text)
      (placing.place_error Refuses (no n is _ absent) (no n is _ barred) (no n is _ long) s.tree (directory s p) text))

  close_holds : Is 57 → P (close s p call b)
  unfolding close file_errors
  close_holds k = checks.named P (opens.slot s.fds p (low_argument call 0)) _ _ (no 57 k ebadf refl) (λ slot is. left)

  dup_holds : Is 23 → P (dup s p call b)
  unfolding dup file_errors
  dup_holds k =
      checks.named P (opens.slot s.fds p (low_argument call 0)) _ _ (no 23 k ebadf refl) (λ slot is.
      checks.named P (opens.free s.fds.slots p) _ _ (no 23 k emfile refl) (λ fd free. left))

  dup3_holds : Is 24 → P (dup3 s p call b)
  unfolding dup3 file_errors
  dup3_holds k =
      checks.checked P (is_within (argument call 2) o_cloexec) _ _ (no 24 k einval refl) (λ flags.
      checks.named P (opens.slot s.fds p (low_argument call 0)) _ _ (no 24 k ebadf refl) (λ slot is.
      checks.checked P (nat_lt (low_argument call 1) most_fds) _ _ (no 24 k ebadf refl) (λ few.
      checks.checked P (not (low_argument call 0 == low_argument call 1)) _ _ (no 24 k einval refl) (λ other. left))))

  pipe2_holds : Is 59 → P (pipe2 s p call b)
  unfolding pipe2 file_errors
  pipe2_holds k =
      let pipe = vacant s.fds.pipes in
      let closes = has (argument call 1) o_cloexec in
      let one : ℕ → FdTable = λ first. with_end (opens.with_pipe s.fds pipe []) p first (ReadEnd pipe) true closes in
      checks.checked P (is_within (argument call 1) o_cloexec) _ _ (no 59 k einval refl) (λ flags.
      checks.named P (opens.free s.fds.slots p) _ _ (no 59 k emfile refl) (λ first is.
      checks.named P (opens.free (one first).slots p) _ _ (no 59 k emfile refl) (λ second is.
      told (no 59 k efault refl) _ _ _ _ (argument call 0) (to_le_bytes w32 first ++ to_le_bytes w32 second) _)))

  seeks_holds : Is 62 → (slot : Slot) (d : Description) (by whence : ℕ) (o : Object) → P (seeks s b slot d by whence o)
  unfolding file_errors
  seeks_holds k slot d by whence Input = no 62 k espipe refl
  seeks_holds k slot d by whence Console = no 62 k espipe refl
  seeks_holds k slot d by whence (ReadEnd pipe) = no 62 k espipe refl
  seeks_holds k slot d by whence (WriteEnd pipe) = no 62 k espipe refl
  seeks_holds k slot d by whence (Opened node) =
      checks.named P (origin s d node whence) _ _ (no 62 k einval refl) (λ from is.
      checks.named P (landing from by) _ _ (no 62 k einval refl) (λ to is. left))

  -- a descriptor that is open, and its description
  opened_holds : (n : ℕ) → P (Refused ebadf) → (f : Slot → Description → Answers) → ((slot : Slot) (d : Description) → P (f slot d)) → P (opened s p (low_argument call n) f)
  opened_holds n bad f h =
      checks.named P (opens.slot s.fds p (low_argument call n)) _ _ bad (λ slot is.
      checks.named P (opens.description s.fds slot.description) _ _ bad (λ d there. h slot d))

  lseek_holds : Is 62 → P (lseek s p call b)
  unfolding lseek file_errors
  lseek_holds k =
      opened_holds 0 (no 62 k ebadf refl) _ (λ slot d.
      checks.checked P (nat_lt (argument call 2) 3) _ _ (no 62 k einval refl) (λ known. seeks_holds k slot d (argument call 1) (argument call 2) d.object))

  truncates_holds : Is 46 → (n : ℕ) (o : Object) → P (truncates s b n o)
  unfolding file_errors
  truncates_holds k n Input = no 46 k einval refl
  truncates_holds k n Console = no 46 k einval refl
  truncates_holds k n (ReadEnd pipe) = no 46 k einval refl
  truncates_holds k n (WriteEnd pipe) = no 46 k einval refl
  truncates_holds k n (Opened node) =
      checks.checked P (nat_le n largest_file) _ _ (no 46 k efbig refl) (λ small.
      checks.checked P (has_space s (length (content s.tree node)) n) _ _ (no 46 k enospc refl) (λ room. left))

  ftruncate_holds : Is 46 → P (ftruncate s p call b)
  unfolding ftruncate file_errors
  ftruncate_holds k =
      checks.checked P (nat_lt (argument call 1) (2 ^ 63)) _ _ (no 46 k einval refl) (λ signed.
      opened_holds 0 (no 46 k ebadf refl) _ (λ slot d.
      checks.checked P d.may_write _ _ (no 46 k einval refl) (λ may. truncates_holds k (argument call 1) d.object)))

  makes_holds : Is 34 → (path : List ℕ) (sight : Lookup) → P (makes s b path sight)
  unfolding file_errors
  makes_holds k path Absent = checks.checked P (has_room s.tree) _ _ (no 34 k enospc refl) (λ room. left)
  makes_holds k path IsFile = no 34 k eexist refl
  makes_holds k path IsDirectory = no 34 k eexist refl
  makes_holds k path NotDirectory = no 34 k enotdir refl

  mkdirat_holds : Is 34 → P (mkdirat s p call b)
  unfolding mkdirat file_errors
  mkdirat_holds k =
      checks.allowed P (place_at s p b (low_argument call 0) (argument call 1)) _
      (at_error 34 k refl refl refl refl (low_argument call 0) (argument call 1) (λ text far. no 34 k ebadf refl))
      (λ place is. makes_holds k (path_of place) (seen s.tree place))

  removes_file_holds : Is 35 → (path : List ℕ) (sight : Lookup) → P (removes_file s b path sight)
  unfolding file_errors
  removes_file_holds k path Absent = no 35 k enoent refl
  removes_file_holds k path IsFile = left
  removes_file_holds k path IsDirectory = no 35 k eisdir refl
  removes_file_holds k path NotDirectory = no 35 k enotdir refl

  removes_directory_holds : Is 35 → (path : List ℕ) (sight : Lookup) → P (removes_directory s b path sight)
  unfolding file_errors
  removes_directory_holds k path Absent = no 35 k enoent refl
  removes_directory_holds k path IsFile = no 35 k enotdir refl
  removes_directory_holds k path NotDirectory = no 35 k enotdir refl
  removes_directory_holds k path IsDirectory =
      checks.checked P (is_empty s.tree path) _ _ (no 35 k enotempty refl) (λ empty.
      checks.checked P (not (is_used s path)) _ _ (no 35 k ebusy refl) (λ unused. left))

  either_named : (test : Bool) (e : ℕ) (o : Option ℕ) (a : Answers) → P (Refused e) → P (unless_nameless o a) → P (unless_nameless (cond test (Some e) o) a)
  either_named true e o a h g = h
  either_named false e o a h g = g

  nameless_holds : (last : List ℕ) (none dot dots : ℕ) (a : Answers) → P (Refused none) → P (Refused dot) → P (Refused dots) → P a → P (unless_nameless (nameless last none dot dots) a)
  nameless_holds last none dot dots a no_name is_dot_ is_dots h =
      either_named (length last == 0) none _ a no_name (either_named (is_dot last) dot _ a is_dot_ (either_named (is_dot_dot last) dots None a is_dots h))

  unlinks_holds : Is 35 → (directories : Bool) (place : Place) → P (unlinks s b directories place)
  unfolding file_errors
  unlinks_holds k true place =
      nameless_holds place.last _ _ _ _ (no 35 k ebusy refl) (no 35 k einval refl) (no 35 k enotempty refl)
      (removes_directory_holds k (path_of place) (seen s.tree place))
  unlinks_holds k false place =
      nameless_holds place.last _ _ _ _ (no 35 k eisdir refl) (no 35 k eisdir refl) (no 35 k eisdir refl)
      (removes_file_holds k (path_of place) (seen s.tree place))

  unlinkat_holds : Is 35 → P (unlinkat s p call b)
  unfolding unlinkat file_errors
  unlinkat_holds k =
      checks.checked P (is_within (argument call 2) at_removedir) _ _ (no 35 k einval refl) (λ flags.
      checks.allowed P (place_at s p b (low_argument call 0) (argument call 1)) _
      (at_error 35 k refl refl refl refl (low_argument call 0) (argument call 1) (λ text far. no 35 k ebadf refl))
      (λ place is. unlinks_holds k (has (argument call 2) at_removedir) place))

  goes_holds : Is 49 → (path : List ℕ) (sight : Lookup) → P (goes_to s p b path sight)
  unfolding file_errors
  goes_holds k path Absent = no 49 k enoent refl
  goes_holds k path IsFile = no 49 k enotdir refl
  goes_holds k path NotDirectory = no 49 k enotdir refl
  goes_holds k path IsDirectory = of.goes path

  chdir_holds : Is 49 → P (chdir s p call b)
  unfolding chdir file_errors
  chdir_holds k =
      checks.allowed P (place_at s p b at_fdcwd (argument call 0)) _
      (at_error 49 k refl refl refl refl at_fdcwd (argument call 0) (λ text far. absurd (or_true (is_absolute text) far)))
      (λ place is. goes_holds k (path_of place) (seen s.tree place))

  getcwd_holds : Is 17 → P (getcwd s p call b)
  unfolding getcwd file_errors
  getcwd_holds k =
      checks.checked P (nat_le (length (shown (directory s p))) (argument call 1)) _ _ (no 17 k erange refl) (λ fits.
      told (no 17 k efault refl) _ _ _ _ _ _ _)

  opens_holds : Is 56 → (flags : ℕ) (place : Place) (sight : Lookup) → P (opens_seen s p b flags place sight)
  unfolding file_errors
  opens_holds k flags place Absent =
      checks.checked P (has flags o_creat) _ _ (no 56 k enoent refl) (λ creates.
      checks.checked P (not place.slashed) _ _ (no 56 k eisdir refl) (λ plain.
      checks.named P (opens.free s.fds.slots p) _ _ (no 56 k emfile refl) (λ fd free.
      checks.checked P (has_room s.tree) _ _ (no 56 k enospc refl) (λ room. left))))
  opens_holds k flags place IsFile =
      checks.checked P (not (has flags o_creat && has flags o_excl)) _ _ (no 56 k eexist refl) (λ may.
      checks.named P (opens.free s.fds.slots p) _ _ (no 56 k emfile refl) (λ fd free.
      checks.named P (maps.get s.tree.names (path_of place)) _ _ (no 56 k enoent refl) (λ node is. left)))
  opens_holds k flags place IsDirectory = no 56 k eisdir refl
  opens_holds k flags place NotDirectory = no 56 k enotdir refl

  openat_holds : Is 56 → P (openat s p call b)
  unfolding openat file_errors
  openat_holds k =
      checks.checked P (is_within (argument call 2) open_flags && not (access_of (argument call 2) == 3)) _ _ (no 56 k einval refl) (λ flags.
      checks.allowed P (place_at s p b (low_argument call 0) (argument call 1)) _
      (at_error 56 k refl refl refl refl (low_argument call 0) (argument call 1) (λ text far. no 56 k ebadf refl))
      (λ place is. opens_holds k (argument call 2) place (seen s.tree place)))

  tells_object_holds : Is 80 → (at : ℕ) (o : Object) → P (tells_object s b at o)
  unfolding file_errors
  tells_object_holds k at Input = told (no 80 k efault refl) _ _ _ _ _ _ _
  tells_object_holds k at Console = told (no 80 k efault refl) _ _ _ _ _ _ _
  tells_object_holds k at (ReadEnd pipe) = told (no 80 k efault refl) _ _ _ _ _ _ _
  tells_object_holds k at (WriteEnd pipe) = told (no 80 k efault refl) _ _ _ _ _ _ _
  tells_object_holds k at (Opened node) = told (no 80 k efault refl) _ _ _ _ _ _ _

  fstat_holds : Is 80 → P (fstat s p call b)
  unfolding fstat file_errors
  fstat_holds k = opened_holds 0 (no 80 k ebadf refl) _ (λ slot d. tells_object_holds k (argument call 1) d.object)

  tells_holds : Is 79 → (at : ℕ) (path : List ℕ) (sight : Lookup) → P (tells s b at path sight)
  unfolding file_errors
  tells_holds k at path Absent = no 79 k enoent refl
  tells_holds k at path IsFile = told (no 79 k efault refl) _ _ _ _ _ _ _
  tells_holds k at path IsDirectory = told (no 79 k efault refl) _ _ _ _ _ _ _
  tells_holds k at path NotDirectory = no 79 k enotdir refl

  newfstatat_holds : Is 79 → P (newfstatat s p call b)
  unfolding newfstatat file_errors
  newfstatat_holds k =
      checks.checked P (is_within (argument call 3) at_symlink_nofollow) _ _ (no 79 k einval refl) (λ flags.
      checks.allowed P (place_at s p b (low_argument call 0) (argument call 1)) _
      (at_error 79 k refl refl refl refl (low_argument call 0) (argument call 1) (λ text far. no 79 k ebadf refl))
      (λ place is. tells_holds k (argument call 2) (path_of place) (seen s.tree place)))

  read_object_holds : Is 63 → (slot : Slot) (d : Description) (at n : ℕ) (o : Object) → P (reads_object s b slot d at n o)
  unfolding file_errors
  read_object_holds k slot d at n Input = told (no 63 k efault refl) _ _ _ _ _ _ _
  read_object_holds k slot d at n Console = no 63 k ebadf refl
  read_object_holds k slot d at n (ReadEnd pipe) =
      checks.either P (reading_waits s.fds pipe n) _ _ (λ wait. of.waits (left_is (call.number == 63) (call.number == 64) k)) (λ there. told (no 63 k efault refl) _ _ _ _ _ _ _)
  read_object_holds k slot d at n (WriteEnd pipe) = no 63 k ebadf refl
  read_object_holds k slot d at n (Opened node) = told (no 63 k efault refl) _ _ _ _ _ _ _

  read_holds : Is 63 → P (read s p call b)
  unfolding read file_errors
  read_holds k =
      opened_holds 0 (no 63 k ebadf refl) _ (λ slot d.
      checks.checked P d.may_read _ _ (no 63 k ebadf refl) (λ may. read_object_holds k slot d (argument call 1) (min (argument call 2) most_moved) d.object))

  write_object_holds : Is 64 → (slot : Slot) (d : Description) (bytes : List ℕ) (o : Object) → P (writes_object s p b slot d bytes o)
  unfolding file_errors
  write_object_holds k slot d bytes Input = no 64 k ebadf refl
  write_object_holds k slot d bytes Console = checks.checked P (has_space s 0 (length bytes)) _ _ (no 64 k enospc refl) (λ room. left)
  write_object_holds k slot d bytes (ReadEnd pipe) = no 64 k ebadf refl
  write_object_holds k slot d bytes (WriteEnd pipe) =
      checks.either P (not (opens.has_readers s.fds pipe)) _ _ (λ broken. of.breaks) (λ whole.
      checks.either P (nat_lt pipe_size (length (opens.held s.fds pipe) + length bytes)) _ _ (λ full. of.waits (right_is (call.number == 63) (call.number == 64) k)) (λ fits. left))
  write_object_holds k slot d bytes (Opened node) =
      let at = start_of s d node in
      let old = length (content s.tree node) in
      checks.either P (length bytes == 0) _ _ (λ none. left) (λ some.
      checks.checked P (nat_le (at + length bytes) largest_file) _ _ (no 64 k efbig refl) (λ small.
      checks.checked P (has_space s old (length_after old at (length bytes))) _ _ (no 64 k enospc refl) (λ room. left)))

  write_holds : Is 64 → P (write s p call b)
  unfolding write file_errors
  write_holds k =
      let n = min (argument call 2) most_moved in
      let at = argument call 1 in
      opened_holds 0 (no 64 k ebadf refl) _ (λ slot d.
      checks.checked P d.may_write _ _ (no 64 k ebadf refl) (λ may.
      checks.either P (is_some (first_fault access.Read b.memory at n)) _ _ (λ fault. no 64 k efault refl) (λ whole.
      write_object_holds k slot d (bytes_at b.memory at n) d.object)))

  -- all of them

  step : (k : ℕ) (a : Answers) (rest : Option Answers) → (Is k → P a) → HoldsIf P rest → HoldsIf P (cond (call.number == k) (Some a) rest)
  step k a rest h after = go (call.number == k) refl
    where
      go : (c : Bool) → (call.number == k) ≡ c → HoldsIf P (cond c (Some a) rest)
      go true e = h e
      go false e = after

  pub any_holds : HoldsIf P (file_call s p call b)
  unfolding file_call
  any_holds =
      step 17 (getcwd s p call b) _ getcwd_holds
      (step 23 (dup s p call b) _ dup_holds
      (step 24 (dup3 s p call b) _ dup3_holds
      (step 34 (mkdirat s p call b) _ mkdirat_holds
      (step 35 (unlinkat s p call b) _ unlinkat_holds
      (step 46 (ftruncate s p call b) _ ftruncate_holds
      (step 49 (chdir s p call b) _ chdir_holds
      (step 56 (openat s p call b) _ openat_holds
      (step 57 (close s p call b) _ close_holds
      (step 59 (pipe2 s p call b) _ pipe2_holds
      (step 62 (lseek s p call b) _ lseek_holds
      (step 63 (read s p call b) _ read_holds
      (step 64 (write s p call b) _ write_holds
      (step 79 (newfstatat s p call b) _ newfstatat_holds
      (step 80 (fstat s p call b) None fstat_holds tt))))))))))))))

  or_other : (o : Option Answers) (other : Answers) → HoldsIf P o → P other → P (unwrap_or o other)
  or_other None other h g = g
  or_other (Some a) other h g = h

  pub files_hold : (other : Answers) → P other → P (unwrap_or (file_call s p call b) other)
  files_hold other g = or_other (file_call s p call b) other any_holds g
