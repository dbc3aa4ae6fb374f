-- The calls on files keep a state sound.
use Rattle.std.proofs.Common.{◌≡◌, ℕ, zero, suc, ◌<◌, ◌≤◌, ◌&&◌, ◌||◌, inl, inr, Bool, true, false, cond, List, [], ◌∷◌, ◌++◌, length, Option, Some, None, refl, ap, sym, subst, ◌∙◌, arith, length-drop, length-take}
use Rattle.std.proofs.lemmas.Bool.Decides.{nat_tests}
use Rattle.std.proofs.lemmas.List.{length-append}
use Rattle.std.specs.Prelude.{not, nat_lt, nat_le, ◌==◌, ◌^◌, ◌+◌, min, drop, take, find, is_some, is_none}
use Rattle.std.specs.Option.{option_and_then, option_map, unwrap_or}
use Rattle.std.specs.List.{range_with_len, list_any}
use Rattle.std.specs.declared.result.Result.{Result}
use Rattle.std.specs.declared.result.Result.TheVariants.{Ok, Err}
use Rattle.std.specs.Int.{w32, to_le_bytes}
use Rattle.std.specs.Cmp.{nat_cmp_total}
use Rattle.std.specs.FinMap as maps
use Rattle.rv_mem.specs.Memory.{first_fault, bytes_at}
use Rattle.rv_mem.specs.declared.rights.Access.TheVariants as access
use Rattle.lx_abi.specs.declared.log.Call.{Call}
use Rattle.lx_abi.specs.declared.outcome.Node.{Node}
use Rattle.lx_abi.specs.declared.outcome.Node.TheVariants.{File, Directory}
use Rattle.containers.specs.Vacant.{vacant}
use Rattle.lx_abi.specs.Limits.{largest_file, most_moved, pipe_size, most_fds, path_limit}
use Rattle.lx_abi.specs.Errnos.{enoent, ebadf, ebusy, eexist, eisdir, einval, emfile, efbig, enospc, erange, enotempty, enametoolong}
use Rattle.lx_abi.specs.declared.log.Cause.TheVariants.{Sent}
use Rattle.lx_files.specs.Contents.{length_after, overwritten, padded_to}
use Rattle.lx_files.specs.Kinds.{bytes_of, size_of}
use Rattle.lx_files.specs.Paths.{Path, slash, parent}
use Rattle.lx_files.specs.Trees.{content, has_room, is_empty, node_at, created, with_content}
use Rattle.lx_files.proofs.Sizes.{length_overwritten, length_padded}
use Rattle.lx_files.specs.Places.{path_of, seen, sight, place, reached, beyond, and_then, pieces, parts, is_long, is_absolute, is_slashed, is_dot, is_dot_dot, start_of as start_of_walk}
use Rattle.lx_files.specs.declared.tree.Tree.{Tree}
use Rattle.lx_files.specs.declared.places.Place.{Place}
use Rattle.lx_files.specs.declared.places.Lookup.{Lookup}
use Rattle.lx_files.specs.declared.places.Lookup.TheVariants.{Absent, IsFile, IsDirectory, NotDirectory}
use Rattle.lx_open.specs.Opens as opens
use Rattle.lx_open.specs.Kinds.{SlotMap}
use Rattle.lx_open.specs.Releases.{Held, closed, unlinked}
use Rattle.lx_open.specs.declared.description.Object.{Object}
use Rattle.lx_open.specs.declared.description.Object.TheVariants.{Input, Console, ReadEnd, WriteEnd, Opened}
use Rattle.lx_open.specs.declared.description.Description.{Description}
use Rattle.lx_open.specs.declared.description.Slot.{Slot}
use Rattle.lx_open.specs.declared.fd_table.FdTable.{FdTable}
use Rattle.lx_proc.specs.declared.state.Shared.{Shared}
use Rattle.lx_proc.specs.declared.state.UserState.{UserState}
use Rattle.lx_proc.specs.State.{directory, with_fds, with_tree}
use Rattle.lx_proc.specs.Texts.{text_at}
use Rattle.lx_proc.specs.declared.state.Entry.{Entry}
use Rattle.lx_proc.specs.Answers.{Answers, argument, low_argument}
use Rattle.lx_fcalls.specs.Flags.{is_within, has, o_creat, o_excl, o_trunc, o_cloexec, open_flags, access_of, at_removedir, at_symlink_nofollow, at_fdcwd}
use Rattle.lx_fcalls.specs.Arguments.{place_at, place_from, may_begin, read_text}
use Rattle.lx_fcalls.specs.Close.{close}
use Rattle.lx_fcalls.specs.Dup.{dup}
use Rattle.lx_fcalls.specs.Dup3.{dup3, renamed}
use Rattle.lx_fcalls.specs.Openat.{openat, opens_seen, opening, emptied_if}
use Rattle.lx_fcalls.specs.Pipe2.{pipe2, with_end}
use Rattle.lx_fcalls.specs.Ftruncate.{ftruncate, truncates}
use Rattle.lx_fcalls.specs.Lseek.{lseek, seeks, origin, landing, distant}
use Rattle.lx_fcalls.specs.Moving.{has_space}
use Rattle.lx_fcalls.specs.Read.{read, reads_object, waits as reading_waits}
use Rattle.lx_fcalls.specs.Write.{write, writes_object, start_of, sigpipe}
use Rattle.lx_fcalls.specs.Chdir.{chdir, goes_to}
use Rattle.lx_fcalls.specs.Getcwd.{getcwd, shown}
use Rattle.lx_fcalls.specs.Mkdirat.{mkdirat, makes}
use Rattle.lx_fcalls.specs.Unlinkat.{unlinkat, removes_file, removes_directory, is_used, nameless, unless_nameless, unlinks}
use Rattle.lx_fcalls.specs.Fstat.{fstat, tells_object}
use Rattle.lx_fcalls.specs.Newfstatat.{newfstatat, tells}
use Rattle.lx_fcalls.specs.Calls.{file_call}
use Rattle.lx_sound.specs.Together.{is_file, HoldTogether}
use Rattle.lx_sound.specs.Rooted.{is_directory}
use Rattle.lx_sound.specs.Parts.{lives, PartsSound}
use Rattle.lx_sound.proofs.Maps.{some_is, there_now}
use Rattle.lx_sound.proofs.Together.{closed_together, closed_other}
use Rattle.lx_sound.proofs.Reached.{closed_reached}
use Rattle.lx_sound.proofs.Fewer.{closed_fewer, closed_none}
use Rattle.lx_sound.proofs.Paths.{names_bare}
use Rattle.lx_sound.proofs.Trees.{Ends, reached_ends, absent_parent, absent_apart}
use Rattle.lx_sound.proofs.Entries.{received_sound}
use Rattle.lx_sound.proofs.Changes.{Change, Takes, Prints, Names, Loses, Opens, Pipes, Seeks, Holds, Makes, Writes, Unlinks, IsRemovable, IsDue, done}
use Rattle.lx_sound.proofs.Keeping.{Keeps, keeps_all, keeps_done, keeps_two, changed_keeps, DoesKeep, KeptIf, either_kept, unless_kept, given_kept, granted_kept, gives_kept}

-- a slot below the most descriptors
slot_is : (fds : FdTable) (p fd : ℕ) (named : Slot) → opens.slot fds p fd ≡ Some named → maps.get fds.slots (opens.pair p fd) ≡ Some named
slot_is fds p fd named = go (nat_lt fd most_fds)
  where
    go : (b : Bool) → cond b (maps.get fds.slots (opens.pair p fd)) None ≡ Some named → maps.get fds.slots (opens.pair p fd) ≡ Some named
    go true e = e
    go false e = absurd (cc e)

-- what is seen as a file is one
sight_file : (slashed : Bool) (o : Option Node) → sight slashed o ≡ IsFile → is_file o ≡ true
sight_file slashed None e = absurd (cc e)
sight_file true (Some (File bytes)) e = absurd (cc e)
sight_file false (Some (File bytes)) e = refl
sight_file slashed (Some Directory) e = absurd (cc e)

seen_file : (tree : Tree) (place : Place) (node : ℕ) → seen tree place ≡ IsFile → maps.get tree.names (path_of place) ≡ Some node → is_file (maps.get tree.nodes node) ≡ true
seen_file tree place node sees named =
    ap (λ o. is_file (option_and_then (maps.get tree.nodes) o)) (sym named) ∙ sight_file place.slashed (node_at tree (path_of place)) sees

-- a free descriptor is below the most
found_below : (q : ℕ → Bool) (a n fd : ℕ) → find q (range_with_len a n) ≡ Some fd → fd < a + n
found_below q a zero fd is = absurd (cc is)
found_below q a (suc n) fd is = go (q a) is (found_below q (a + 1) n fd)
  where
    go : (b : Bool) → cond b (Some a) (find q (range_with_len (a + 1) n)) ≡ Some fd → (find q (range_with_len (a + 1) n) ≡ Some fd → fd < a + 1 + n) → fd < a + suc n
    go true e later = let same : a ≡ fd = some_is a fd e in omega (arith, same)
    go false e later = let less = later e in omega (arith, less)

-- and names nothing
found_is : (q : ℕ → Bool) (a n fd : ℕ) → find q (range_with_len a n) ≡ Some fd → q fd ≡ true
found_is q a zero fd is = absurd (cc is)
found_is q a (suc n) fd is = go (q a) refl is (found_is q (a + 1) n fd)
  where
    go : (b : Bool) → q a ≡ b → cond b (Some a) (find q (range_with_len (a + 1) n)) ≡ Some fd → (find q (range_with_len (a + 1) n) ≡ Some fd → q fd ≡ true) → q fd ≡ true
    go true here e later = subst (λ i. q i ≡ true) (some_is a fd e) here
    go false other e later = later e

free_none : (slots : SlotMap) (p fd : ℕ) → opens.free slots p ≡ Some fd → maps.get slots (opens.pair p fd) ≡ None
unfolding opens.free
free_none slots p fd is = go (maps.get slots (opens.pair p fd)) (found_is (λ i. is_none (maps.get slots (opens.pair p i))) 0 most_fds fd is)
  where
    go : (o : Option Slot) → is_none o ≡ true → o ≡ None
    go None e = refl
    go (Some x) e = absurd (cc e)

free_below : (slots : SlotMap) (p fd : ℕ) → opens.free slots p ≡ Some fd → fd < most_fds
unfolding opens.free
free_below slots p fd is = found_below (λ i. is_none (maps.get slots (opens.pair p i))) 0 most_fds fd is

-- what is seen as absent isn't there, and what is seen as a directory is one
absent_is : (slashed : Bool) (o : Option Node) → sight slashed o ≡ Absent → o ≡ None
absent_is slashed None e = refl
absent_is true (Some (File bytes)) e = absurd (cc e)
absent_is false (Some (File bytes)) e = absurd (cc e)
absent_is slashed (Some Directory) e = absurd (cc e)

directory_is : (slashed : Bool) (o : Option Node) → sight slashed o ≡ IsDirectory → is_directory o ≡ true
directory_is slashed None e = absurd (cc e)
directory_is true (Some (File bytes)) e = absurd (cc e)
directory_is false (Some (File bytes)) e = absurd (cc e)
directory_is slashed (Some Directory) e = refl

no_directory : (slashed : Bool) (o : Option Node) → sight slashed o ≡ IsFile → is_directory o ≡ false
no_directory slashed None e = refl
no_directory true (Some (File bytes)) e = refl
no_directory false (Some (File bytes)) e = refl
no_directory slashed (Some Directory) e = absurd (cc e)

-- a distance leads to an offset that a file can have
landing_within : (from by to : ℕ) → landing from by ≡ Some to → to ≤ largest_file
landing_within from by to = go (distant from by)
  where
    least : (n : ℕ) (b : Bool) → nat_le n largest_file ≡ b → cond b (Some n) None ≡ Some to → to ≤ largest_file
    least n true le is = let same : n ≡ to = some_is n to is in grind (arith, nat_tests, le, same)
    least n false le is = absurd (cc is)

    go : (o : Option ℕ) → option_and_then (λ n. cond (nat_le n largest_file) (Some n) None) o ≡ Some to → to ≤ largest_file
    go None is = absurd (cc is)
    go (Some n) is = least n (nat_le n largest_file) refl is

-- a place of a name
named_path : (at name : List ℕ) → (at ++ slash ∷ name ≡ [] → ⊥)
named_path [] name e = cc e
named_path (x ∷ at) name e = cc e

drop_shorter : (n : ℕ) (xs : List ℕ) → length (drop n xs) ≤ length xs
drop_shorter n xs = let e = length-drop n xs in omega (arith, e)

module _ (child : ℕ) (s : Shared) (p : ℕ) (call : Call) (b : UserState) (h : PartsSound s) (alive : lives (maps.get s.entries p) ≡ true) where
  abbrev Kept : Answers → Type 0
  Kept a = DoesKeep child s p a

  keeps_one : (c : Change) → IsDue s p c → Keeps s (done s p c)
  keeps_one c due = keeps_done s p alive c due

  -- where the walk along a path argument ends
  start_there : (text : List ℕ) → is_directory (node_at s.tree (start_of_walk (directory s p) text)) ≡ true
  start_there text = go (is_absolute text)
    where
      own : (o : Option Entry) → maps.get s.entries p ≡ o → is_directory (node_at s.tree (unwrap_or (option_map (λ e. e.directory) o) [])) ≡ true
      own None is = h.rooted.root
      own (Some e) is = (h.entries p e is).directory

      go : (t : Bool) → is_directory (node_at s.tree (cond t [] (directory s p))) ≡ true
      go true = h.rooted.root
      go false = own (maps.get s.entries p) refl

  place_ends : (text : List ℕ) (at : Place) → place s.tree (directory s p) text ≡ Ok at → Ends s.tree at
  unfolding place
  place_ends text at = go (length text == 0) (list_any is_long (pieces text))
    where
      go : (empty long : Bool) → cond empty (Err enoent) (cond long (Err enametoolong) (reached s.tree (is_slashed text) (start_of_walk (directory s p) text) [] (parts (pieces text)))) ≡ Ok at → Ends s.tree at
      go true long e = absurd (cc e)
      go false true e = absurd (cc e)
      go false false e = reached_ends s.tree (is_slashed text) (start_of_walk (directory s p) text) [] (parts (pieces text)) at (start_there text) refl (names_bare text) e

  argument_ends : (dirfd address : ℕ) (at : Place) → place_at s p b dirfd address ≡ Ok at → Ends s.tree at
  argument_ends dirfd address at = go (read_text (text_at b.memory path_limit address))
    where
      from : (text : List ℕ) (t : Bool) → cond t (place s.tree (directory s p) text) (Err ebadf) ≡ Ok at → Ends s.tree at
      from text true e = place_ends text at e
      from text false e = absurd (cc e)

      go : (r : Result (List ℕ) ℕ) → and_then (place_from s p dirfd) r ≡ Ok at → Ends s.tree at
      go (Ok text) e = from text (may_begin dirfd text) e
      go (Err error) e = absurd (cc e)

  -- what isn't there has no name, and its parent is a directory
  nothing_named : (path : Path) → node_at s.tree path ≡ None → maps.get s.tree.names path ≡ None
  nothing_named path none = go (maps.get s.tree.names path) refl none
    where
      go : (o : Option ℕ) → maps.get s.tree.names path ≡ o → option_and_then (maps.get s.tree.nodes) o ≡ None → o ≡ None
      go None is e = refl
      go (Some n) is e = let there : is_some (maps.get s.tree.nodes n) ≡ true = h.files.names path n is in absurd (cc (there, e))

  makes_due : (at : Place) (x : Node) → Ends s.tree at → seen s.tree at ≡ Absent → has_room s.tree ≡ true → size_of x ≡ 0 → IsDue s p (Makes (path_of at) x)
  makes_due at x ends sees room empty =
      let none : node_at s.tree (path_of at) ≡ None = absent_is at.slashed (node_at s.tree (path_of at)) sees in
      (room, nothing_named (path_of at) none, absent_parent s.tree at h.rooted ends none, empty, absent_apart s.tree at h.rooted ends none)

  -- what a file holds is within its limit
  content_within : (node : ℕ) → length (content s.tree node) ≤ largest_file
  content_within node = go (maps.get s.tree.nodes node) refl
    where
      go : (o : Option Node) → maps.get s.tree.nodes node ≡ o → length (bytes_of o) ≤ largest_file
      go None is = omega arith
      go (Some (File bytes)) is = h.within.files node (File bytes) is
      go (Some Directory) is = omega arith

  close_kept : Kept (close s p call b)
  unfolding close
  close_kept = given_kept child s p (opens.slot s.fds p (low_argument call 0)) ebadf _ (λ named e.
      let fd = low_argument call 0 in keeps_one (Loses (closed s.tree s.fds p fd)) ((λ x. closed_together s.tree s.fds x p fd), closed_fewer s.tree s.fds p fd, (λ x. closed_reached s.tree s.fds x p fd)))

  dup_kept : Kept (dup s p call b)
  unfolding dup
  dup_kept = given_kept child s p (opens.slot s.fds p (low_argument call 0)) ebadf _ (λ named is. given_kept child s p (opens.free s.fds.slots p) emfile _ (λ fd e.
      let copy : Slot = record { description = named.description; closes_on_exec = false } in
      keeps_one (Names fd copy) (free_below s.fds.slots p fd e, h.files.slots (opens.pair p (low_argument call 0)) named (slot_is s.fds p (low_argument call 0) named is), free_none s.fds.slots p fd e)))

  renames : (old new : ℕ) (named : Slot) (closes : Bool) → opens.slot s.fds p old ≡ Some named → nat_lt new most_fds ≡ true → not (old == new) ≡ true → Keeps s (renamed s p new named.description closes (closed s.tree s.fds p new))
  renames old new named closes is below other =
      let c : Held = closed s.tree s.fds p new in
      let key = opens.pair p old in
      let x : Slot = record { description = named.description; closes_on_exec = closes } in
      let unlike : (key == opens.pair p new) ≡ false = grind (arith, nat_tests, other) in
      let left : HoldTogether c.tree c.fds = closed_together s.tree s.fds h.files p new in
      keeps_two s p alive (Loses c) (Names new x) ((λ g. closed_together s.tree s.fds g p new), closed_fewer s.tree s.fds p new, (λ g. closed_reached s.tree s.fds g p new))
      (grind (arith, nat_tests, below), left.slots key named (closed_other s.tree s.fds p new key unlike ∙ slot_is s.fds p old named is), closed_none s.tree s.fds p new below)

  dup3_kept : Kept (dup3 s p call b)
  unfolding dup3
  dup3_kept =
      unless_kept child s p (is_within (argument call 2) o_cloexec) einval _ (λ e0. given_kept child s p (opens.slot s.fds p (low_argument call 0)) ebadf _ (λ named is.
      unless_kept child s p (nat_lt (low_argument call 1) most_fds) ebadf _ (λ below. unless_kept child s p (not (low_argument call 0 == low_argument call 1)) einval _ (λ other.
      renames (low_argument call 0) (low_argument call 1) named (has (argument call 2) o_cloexec) is below other))))

  pipe2_kept : Kept (pipe2 s p call b)
  unfolding pipe2
  pipe2_kept =
      let pipe = vacant s.fds.pipes in
      let closes = has (argument call 1) o_cloexec in
      let one : ℕ → FdTable = λ first. with_end (opens.with_pipe s.fds pipe []) p first (ReadEnd pipe) true closes in
      unless_kept child s p (is_within (argument call 1) o_cloexec) einval _ (λ e0. given_kept child s p (opens.free s.fds.slots p) emfile _ (λ first e1.
      given_kept child s p (opens.free (one first).slots p) emfile _ (λ second e2.
      gives_kept child s p (with_fds s (with_end (one first) p second (WriteEnd pipe) false closes)) b (argument call 0) (to_le_bytes w32 first ++ to_le_bytes w32 second) 0 (keeps_one (Pipes first second closes) (free_below s.fds.slots p first e1, free_below (one first).slots p second e2, free_none s.fds.slots p first e1, free_none (one first).slots p second e2)))))

  moves_keep : (n offset : ℕ) → offset ≤ largest_file → Keeps s (with_fds s (opens.with_offset s.fds n offset))
  moves_keep n offset le = keeps_one (Seeks n offset) le

  seeks_kept : (named : Slot) (d : Description) (by whence : ℕ) (o : Object) → Kept (seeks s b named d by whence o)
  seeks_kept named d by whence Input = tt
  seeks_kept named d by whence Console = tt
  seeks_kept named d by whence (ReadEnd pipe) = tt
  seeks_kept named d by whence (WriteEnd pipe) = tt
  seeks_kept named d by whence (Opened node) = given_kept child s p (origin s d node whence) einval _ (λ from e. given_kept child s p (landing from by) einval _ (λ to e1. moves_keep named.description to (landing_within from by to e1)))

  lseek_kept : Kept (lseek s p call b)
  unfolding lseek
  lseek_kept =
      given_kept child s p (opens.slot s.fds p (low_argument call 0)) ebadf _ (λ named e. given_kept child s p (opens.description s.fds named.description) ebadf _ (λ d e1.
      unless_kept child s p (nat_lt (argument call 2) 3) einval _ (λ e2. seeks_kept named d (argument call 1) (argument call 2) d.object)))

  truncates_kept : (n : ℕ) (o : Object) → Kept (truncates s b n o)
  truncates_kept n Input = tt
  truncates_kept n Console = tt
  truncates_kept n (ReadEnd pipe) = tt
  truncates_kept n (WriteEnd pipe) = tt
  truncates_kept n (Opened node) =
      unless_kept child s p (nat_le n largest_file) efbig _ (λ e. unless_kept child s p (has_space s (length (content s.tree node)) n) enospc _ (λ e1.
      let long : length (padded_to n (content s.tree node)) ≡ n = length_padded n (content s.tree node) in
      let le : n ≤ largest_file = grind (arith, nat_tests, e) in
      keeps_one (Writes node (padded_to n)) (omega (arith, long, le), ap (has_space s (length (content s.tree node))) long ∙ e1)))

  ftruncate_kept : Kept (ftruncate s p call b)
  unfolding ftruncate
  ftruncate_kept =
      unless_kept child s p (nat_lt (argument call 1) (2 ^ 63)) einval _ (λ e0. given_kept child s p (opens.slot s.fds p (low_argument call 0)) ebadf _ (λ named e1. given_kept child s p (opens.description s.fds named.description) ebadf _ (λ d e2.
      unless_kept child s p d.may_write einval _ (λ e3. truncates_kept (argument call 1) d.object))))

  makes_kept : (at : Place) → Ends s.tree at → (sight : Lookup) → seen s.tree at ≡ sight → Kept (makes s b (path_of at) sight)
  makes_kept at ends Absent sees = unless_kept child s p (has_room s.tree) enospc _ (λ e. keeps_one (Makes (path_of at) Directory) (makes_due at Directory ends sees e refl))
  makes_kept at ends IsFile sees = tt
  makes_kept at ends IsDirectory sees = tt
  makes_kept at ends NotDirectory sees = tt

  mkdirat_kept : Kept (mkdirat s p call b)
  unfolding mkdirat
  mkdirat_kept = granted_kept child s p (place_at s p b (low_argument call 0) (argument call 1)) _ (λ at got. makes_kept at (argument_ends (low_argument call 0) (argument call 1) at got) (seen s.tree at) refl)

  unlinks_keep : (path : List ℕ) → IsRemovable s path → Keeps s (with_tree s (unlinked s.tree s.fds path))
  unlinks_keep path due = keeps_one (Unlinks path) due

  file_removable : (path : List ℕ) → is_directory (node_at s.tree path) ≡ false → IsRemovable s path
  file_removable path file = ((λ root. let there : is_directory (node_at s.tree path) ≡ true = subst (λ i. is_directory (node_at s.tree i) ≡ true) (sym root) h.rooted.root in absurd (cc (file, there))), inl file)

  removes_file_kept : (at : Place) (sight : Lookup) → seen s.tree at ≡ sight → Kept (removes_file s b (path_of at) sight)
  removes_file_kept at Absent sees = tt
  removes_file_kept at IsFile sees = unlinks_keep (path_of at) (file_removable (path_of at) (no_directory at.slashed (node_at s.tree (path_of at)) sees))
  removes_file_kept at IsDirectory sees = tt
  removes_file_kept at NotDirectory sees = tt

  turned : (t : Bool) → not t ≡ true → t ≡ false
  turned true e = absurd (cc e)
  turned false e = refl

  removes_directory_kept : (path : List ℕ) → (path ≡ [] → ⊥) → (sight : Lookup) → Kept (removes_directory s b path sight)
  removes_directory_kept path named Absent = tt
  removes_directory_kept path named IsFile = tt
  removes_directory_kept path named NotDirectory = tt
  removes_directory_kept path named IsDirectory = unless_kept child s p (is_empty s.tree path) enotempty _ (λ empty. unless_kept child s p (not (is_used s path)) ebusy _ (λ unused.
      unlinks_keep path (named, inr (empty, turned (is_used s path) unused))))

  nameless_kept : (o : Option ℕ) (a : Answers) → (o ≡ None → Kept a) → Kept (unless_nameless o a)
  nameless_kept None a g = g refl
  nameless_kept (Some e) a g = tt

  name_stands : (at : Place) → nameless at.last ebusy einval enotempty ≡ None → (path_of at ≡ [] → ⊥)
  unfolding beyond
  name_stands at = go (length at.last == 0) (is_dot at.last) (is_dot_dot at.last)
    where
      go : (none dot dots : Bool) → cond none (Some ebusy) (cond dot (Some einval) (cond dots (Some enotempty) None)) ≡ None
          → (cond (none || dot) at.under (cond dots (parent at.under) (at.under ++ slash ∷ at.last)) ≡ [] → ⊥)
      go true dot dots e root = cc e
      go false true dots e root = cc e
      go false false true e root = cc e
      go false false false e root = named_path at.under at.last root

  unlinks_kept : (directories : Bool) (at : Place) → Kept (unlinks s b directories at)
  unlinks_kept true at = nameless_kept (nameless at.last ebusy einval enotempty) _ (λ named. removes_directory_kept (path_of at) (name_stands at named) (seen s.tree at))
  unlinks_kept false at = nameless_kept (nameless at.last eisdir eisdir eisdir) _ (λ named. removes_file_kept at (seen s.tree at) refl)

  unlinkat_kept : Kept (unlinkat s p call b)
  unfolding unlinkat
  unlinkat_kept =
      unless_kept child s p (is_within (argument call 2) at_removedir) einval _ (λ e. granted_kept child s p (place_at s p b (low_argument call 0) (argument call 1)) _ (λ at got. unlinks_kept (has (argument call 2) at_removedir) at))

  goes_kept : (at : Place) (sight : Lookup) → seen s.tree at ≡ sight → Kept (goes_to s p b (path_of at) sight)
  goes_kept at Absent sees = tt
  goes_kept at IsFile sees = tt
  goes_kept at NotDirectory sees = tt
  goes_kept at IsDirectory sees =
      changed_keeps s p (λ e. record e { directory = path_of at }) (λ e. refl) (λ e sound. record { directory = directory_is at.slashed (node_at s.tree (path_of at)) sees; signals = sound.signals })

  chdir_kept : Kept (chdir s p call b)
  unfolding chdir
  chdir_kept = granted_kept child s p (place_at s p b at_fdcwd (argument call 0)) _ (λ at got. goes_kept at (seen s.tree at) refl)

  getcwd_kept : Kept (getcwd s p call b)
  unfolding getcwd
  getcwd_kept = unless_kept child s p (nat_le (length (shown (directory s p))) (argument call 1)) erange _ (λ e. gives_kept child s p s b _ _ _ (keeps_all s))

  opens_new_keep : (fd flags : ℕ) (at : Place) → fd < most_fds → maps.get s.fds.slots (opens.pair p fd) ≡ None → Ends s.tree at → seen s.tree at ≡ Absent → has_room s.tree ≡ true → Keeps s (record s {
    tree = created s.tree (path_of at) (File []);
    fds = opens.opened s.fds p fd (opening (vacant s.tree.nodes) flags) (has flags o_cloexec);
  })
  opens_new_keep fd flags at below free ends sees room =
      keeps_two s p alive (Makes (path_of at) (File [])) (Opens fd (opening (vacant s.tree.nodes) flags) (has flags o_cloexec)) (makes_due at (File []) ends sees room refl)
      (below, ap is_file (there_now nat_cmp_total s.tree.nodes (vacant s.tree.nodes) (File [])), refl, free)

  empties_due : (fds : FdTable) (node : ℕ) → IsDue (with_fds s fds) p (Writes node (λ old. []))
  empties_due fds node = let le = h.within.contents in (omega arith, grind (arith, nat_tests, le))

  opens_file_keep : (fd flags node : ℕ) → fd < most_fds → maps.get s.fds.slots (opens.pair p fd) ≡ None → is_file (maps.get s.tree.nodes node) ≡ true → Keeps s (record s {
    tree = emptied_if (has flags o_trunc) s.tree node;
    fds = opens.opened s.fds p fd (opening node flags) (has flags o_cloexec);
  })
  opens_file_keep fd flags node below free there = go (has flags o_trunc)
    where
      fds : FdTable
      fds = opens.opened s.fds p fd (opening node flags) (has flags o_cloexec)

      opens_it : Change
      opens_it = Opens fd (opening node flags) (has flags o_cloexec)

      go : (t : Bool) → Keeps s (record s { tree = emptied_if t s.tree node; fds = fds })
      go true = keeps_two s p alive opens_it (Writes node (λ old. [])) (below, there, refl, free) (empties_due fds node)
      go false = keeps_one opens_it (below, there, refl, free)

  opens_kept : (flags : ℕ) (at : Place) → Ends s.tree at → (sight : Lookup) → seen s.tree at ≡ sight → Kept (opens_seen s p b flags at sight)
  opens_kept flags at ends Absent sees =
      unless_kept child s p (has flags o_creat) enoent _ (λ e. unless_kept child s p (not at.slashed) eisdir _ (λ e1. given_kept child s p (opens.free s.fds.slots p) emfile _ (λ fd e2. unless_kept child s p (has_room s.tree) enospc _ (λ e3.
      opens_new_keep fd flags at (free_below s.fds.slots p fd e2) (free_none s.fds.slots p fd e2) ends sees e3))))
  opens_kept flags at ends IsFile sees =
      unless_kept child s p (not (has flags o_creat && has flags o_excl)) eexist _ (λ e. given_kept child s p (opens.free s.fds.slots p) emfile _ (λ fd e1. given_kept child s p (maps.get s.tree.names (path_of at)) enoent _ (λ node named.
      opens_file_keep fd flags node (free_below s.fds.slots p fd e1) (free_none s.fds.slots p fd e1) (seen_file s.tree at node sees named))))
  opens_kept flags at ends IsDirectory sees = tt
  opens_kept flags at ends NotDirectory sees = tt

  openat_kept : Kept (openat s p call b)
  unfolding openat
  openat_kept =
      unless_kept child s p (is_within (argument call 2) open_flags && not (access_of (argument call 2) == 3)) einval _ (λ e.
      granted_kept child s p (place_at s p b (low_argument call 0) (argument call 1)) _ (λ at got. opens_kept (argument call 2) at (argument_ends (low_argument call 0) (argument call 1) at got) (seen s.tree at) refl))

  tells_object_kept : (at : ℕ) (o : Object) → Kept (tells_object s b at o)
  tells_object_kept at Input = gives_kept child s p s b _ _ _ (keeps_all s)
  tells_object_kept at Console = gives_kept child s p s b _ _ _ (keeps_all s)
  tells_object_kept at (ReadEnd pipe) = gives_kept child s p s b _ _ _ (keeps_all s)
  tells_object_kept at (WriteEnd pipe) = gives_kept child s p s b _ _ _ (keeps_all s)
  tells_object_kept at (Opened node) = gives_kept child s p s b _ _ _ (keeps_all s)

  fstat_kept : Kept (fstat s p call b)
  unfolding fstat
  fstat_kept = given_kept child s p (opens.slot s.fds p (low_argument call 0)) ebadf _ (λ named e. given_kept child s p (opens.description s.fds named.description) ebadf _ (λ d e1. tells_object_kept (argument call 1) d.object))

  tells_kept : (at : ℕ) (path : List ℕ) (sight : Lookup) → Kept (tells s b at path sight)
  tells_kept at path Absent = tt
  tells_kept at path IsFile = gives_kept child s p s b _ _ _ (keeps_all s)
  tells_kept at path IsDirectory = gives_kept child s p s b _ _ _ (keeps_all s)
  tells_kept at path NotDirectory = tt

  newfstatat_kept : Kept (newfstatat s p call b)
  unfolding newfstatat
  newfstatat_kept =
      unless_kept child s p (is_within (argument call 3) at_symlink_nofollow) einval _ (λ e. granted_kept child s p (place_at s p b (low_argument call 0) (argument call 1)) _ (λ at got. tells_kept (argument call 2) (path_of at) (seen s.tree at)))

  -- read

  drains_keep : (pipe n : ℕ) → Keeps s (with_fds s (opens.with_held s.fds pipe (drop n)))
  drains_keep pipe n = keeps_one (Holds pipe (drop n)) (λ bytes is. let le = h.files.pipes pipe bytes is in let less = drop_shorter n bytes in omega (arith, le, less))

  input_keeps : (n : ℕ) → Keeps s (record s { input = drop n s.input })
  input_keeps n = keeps_one (Takes n) tt

  -- a file is read no further than to its end
  reads_within : (offset node n : ℕ) → offset ≤ largest_file → offset + length (take n (drop offset (content s.tree node))) ≤ largest_file
  reads_within offset node n le =
      let bytes = content s.tree node in
      let most = content_within node in
      let taken = length-take n (drop offset bytes) in
      let dropped = length-drop offset bytes in
      grind (arith, le, most, taken, dropped)

  read_object_kept : (named : Slot) (d : Description) → maps.get s.fds.descriptions named.description ≡ Some d → (at n : ℕ) (o : Object) → Kept (reads_object s b named d at n o)
  read_object_kept named d is at n Input = gives_kept child s p (record s { input = drop n s.input }) b _ _ _ (input_keeps n)
  read_object_kept named d is at n Console = tt
  read_object_kept named d is at n (ReadEnd pipe) =
      either_kept child s p (reading_waits s.fds pipe n) _ _ tt
      (λ e. gives_kept child s p (with_fds s (opens.with_held s.fds pipe (drop n))) b _ _ _ (drains_keep pipe n))
  read_object_kept named d is at n (WriteEnd pipe) = tt
  read_object_kept named d is at n (Opened node) =
      let bytes = take n (drop d.offset (content s.tree node)) in
      gives_kept child s p (with_fds s (opens.with_offset s.fds named.description (d.offset + length bytes))) b _ _ _ (moves_keep named.description (d.offset + length bytes) (reads_within d.offset node n (h.within.offsets named.description d is)))

  read_kept : Kept (read s p call b)
  unfolding read
  read_kept =
      given_kept child s p (opens.slot s.fds p (low_argument call 0)) ebadf _ (λ named e. given_kept child s p (opens.description s.fds named.description) ebadf _ (λ d e1.
      unless_kept child s p d.may_read ebadf _ (λ e2. read_object_kept named d e1 (argument call 1) (min (argument call 2) most_moved) d.object)))

  -- write

  fills_keep : (pipe : ℕ) (bytes : List ℕ) → nat_lt pipe_size (length (opens.held s.fds pipe) + length bytes) ≡ false → Keeps s (with_fds s (opens.with_held s.fds pipe (λ there. there ++ bytes)))
  fills_keep pipe bytes fits = keeps_one (Holds pipe (λ there. there ++ bytes)) (λ old is.
      let same : opens.held s.fds pipe ≡ old = rw is refl in
      let sum : length (old ++ bytes) ≡ length old + length bytes = length-append old bytes in
      let within : nat_lt pipe_size (length old + length bytes) ≡ false = subst (λ (x : List ℕ). nat_lt pipe_size (length x + length bytes) ≡ false) same fits in
      grind (arith, nat_tests, sum, within))

  after_within : (old at n : ℕ) → old ≤ largest_file → at + n ≤ largest_file → length_after old at n ≤ largest_file
  after_within old at n le most = go ((n == 0) || nat_lt (at + n) old)
    where
      go : (t : Bool) → cond t old (at + n) ≤ largest_file
      go true = le
      go false = most

  overwrites_keep : (node at : ℕ) (bytes : List ℕ) (n : ℕ) → nat_le (at + length bytes) largest_file ≡ true → has_space s (length (content s.tree node)) (length_after (length (content s.tree node)) at (length bytes)) ≡ true
      → Keeps s (record s { tree = with_content s.tree node (λ there. overwritten there at bytes); fds = opens.with_offset s.fds n (at + length bytes) })
  overwrites_keep node at bytes n le space =
      let old = content s.tree node in
      let long : length_after (length old) at (length bytes) ≡ length (overwritten old at bytes) = length_overwritten old at bytes in
      let most : at + length bytes ≤ largest_file = grind (arith, nat_tests, le) in
      let within = after_within (length old) at (length bytes) (content_within node) most in
      keeps_two s p alive (Writes node (λ there. overwritten there at bytes)) (Seeks n (at + length bytes)) (omega (arith, long, within), ap (has_space s (length old)) (sym long) ∙ space) most

  write_object_kept : (named : Slot) (d : Description) (bytes : List ℕ) (o : Object) → Kept (writes_object s p b named d bytes o)
  write_object_kept named d bytes Input = tt
  write_object_kept named d bytes Console = unless_kept child s p (has_space s 0 (length bytes)) enospc _ (λ e. keeps_one (Prints bytes) e)
  write_object_kept named d bytes (ReadEnd pipe) = tt
  write_object_kept named d bytes (WriteEnd pipe) =
      either_kept child s p (not (opens.has_readers s.fds pipe)) _ _ (changed_keeps s p _ (λ e. refl) (λ e sound. received_sound s.tree e sigpipe (Sent p) sound)) (λ e0.
      either_kept child s p (nat_lt pipe_size (length (opens.held s.fds pipe) + length bytes)) _ _ tt (λ fits. fills_keep pipe bytes fits))
  write_object_kept named d bytes (Opened node) =
      let at = start_of s d node in
      let old = length (content s.tree node) in
      either_kept child s p (length bytes == 0) _ _ (keeps_all s) (λ e0.
      unless_kept child s p (nat_le (at + length bytes) largest_file) efbig _ (λ e1.
      unless_kept child s p (has_space s old (length_after old at (length bytes))) enospc _ (λ e2.
      overwrites_keep node at bytes named.description e1 e2)))

  write_kept : Kept (write s p call b)
  unfolding write
  write_kept =
      let n = min (argument call 2) most_moved in
      let at = argument call 1 in
      given_kept child s p (opens.slot s.fds p (low_argument call 0)) ebadf _ (λ named e. given_kept child s p (opens.description s.fds named.description) ebadf _ (λ d e1.
      unless_kept child s p d.may_write ebadf _ (λ e2.
      either_kept child s p (is_some (first_fault access.Read b.memory at n)) _ _ tt (λ e3.
      write_object_kept named d (bytes_at b.memory at n) d.object))))

  -- all of them

  abbrev KeptIfAny : Option Answers → Type 0
  KeptIfAny o = KeptIf child s p o

  step : (c : Bool) (a : Answers) (rest : Option Answers) → Kept a → KeptIfAny rest → KeptIfAny (cond c (Some a) rest)
  step true a rest g after = g
  step false a rest g after = after

  pub files_kept : KeptIfAny (file_call s p call b)
  unfolding file_call
  files_kept =
      step (call.number == 17) (getcwd s p call b) _ getcwd_kept
      (step (call.number == 23) (dup s p call b) _ dup_kept
      (step (call.number == 24) (dup3 s p call b) _ dup3_kept
      (step (call.number == 34) (mkdirat s p call b) _ mkdirat_kept
      (step (call.number == 35) (unlinkat s p call b) _ unlinkat_kept
      (step (call.number == 46) (ftruncate s p call b) _ ftruncate_kept
      (step (call.number == 49) (chdir s p call b) _ chdir_kept
      (step (call.number == 56) (openat s p call b) _ openat_kept
      (step (call.number == 57) (close s p call b) _ close_kept
      (step (call.number == 59) (pipe2 s p call b) _ pipe2_kept
      (step (call.number == 62) (lseek s p call b) _ lseek_kept
      (step (call.number == 63) (read s p call b) _ read_kept
      (step (call.number == 64) (write s p call b) _ write_kept
      (step (call.number == 79) (newfstatat s p call b) _ newfstatat_kept
      (step (call.number == 80) (fstat s p call b) None fstat_kept tt))))))))))))))
