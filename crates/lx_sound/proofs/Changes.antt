-- What calls do to what processes share, one change after another.
use Rattle.std.proofs.Common.{◌≡◌, ℕ, ◌+◌, ◌-◌, ◌<◌, ◌≤◌, ◌⊎◌, inl, inr, ⊎_elim, Bool, true, false, cond, List, [], ◌∷◌, ◌++◌, length, Option, Some, None, refl, ap, sym, subst, ◌∙◌, arith}
use Rattle.std.proofs.lemmas.Bool.Decides.{nat_tests}
use Rattle.std.proofs.lemmas.List.{length-append}
use Rattle.std.proofs.lemmas.Slice.Eq.{bytes_eq-Decides}
use Rattle.std.specs.Prelude.{◌==◌, nat_le, drop, is_some, IsSome}
use Rattle.std.specs.Str.{bytes_eq}
use Rattle.std.specs.Cmp.{nat_cmp_total}
use Rattle.std.specs.FinMap as maps
use Rattle.containers.specs.Vacant.{vacant}
use Rattle.lx_abi.specs.Limits.{pipe_size, most_fds, most_nodes, most_contents, largest_file}
use Rattle.lx_abi.specs.declared.outcome.Node.{Node}
use Rattle.lx_abi.specs.declared.outcome.Node.TheVariants.{File, Directory}
use Rattle.lx_files.specs.Kinds.{size_of, bytes_of, changed_node, changed_file}
use Rattle.lx_files.specs.Paths.{Path, parent, slash}
use Rattle.lx_files.specs.Tallies.{total, weight}
use Rattle.lx_files.specs.Trees.{node_at, has_room, is_empty, content, contents, created, with_content}
use Rattle.lx_files.specs.declared.tree.Tree.{Tree}
use Rattle.lx_files.proofs.Totals.{total-insert, total-remove}
use Rattle.lx_open.specs.Kinds.{moved}
use Rattle.lx_open.specs.Opens as opens
use Rattle.lx_open.specs.Opens.{pair, IsFree}
use Rattle.lx_open.specs.Releases.{Held, unlinked}
use Rattle.lx_open.specs.declared.description.Description.{Description}
use Rattle.lx_open.specs.declared.description.Object.TheVariants.{ReadEnd, WriteEnd}
use Rattle.lx_open.specs.declared.description.Slot.{Slot}
use Rattle.lx_open.specs.declared.fd_table.FdTable.{FdTable}
use Rattle.lx_proc.specs.declared.state.Entry.{Entry}
use Rattle.lx_proc.specs.declared.state.Shared.{Shared}
use Rattle.lx_proc.specs.State.{Entries, with_entries, with_fds, with_tree, with_held}
use Rattle.lx_fcalls.specs.Moving.{all_bytes, has_space}
use Rattle.lx_fcalls.specs.Unlinkat.{is_used}
use Rattle.lx_fcalls.specs.Pipe2.{with_end, end_of}
use Rattle.lx_sound.specs.Together.{is_there, HoldTogether}
use Rattle.lx_sound.specs.Reached.{AreReached}
use Rattle.lx_sound.specs.Rooted.{is_directory, IsRooted}
use Rattle.lx_sound.specs.Within.{AreWithin}
use Rattle.lx_sound.specs.Parts.{lives, EntriesSound, AreOwned, PartsSound}
use Rattle.lx_sound.proofs.Maps.{inserted, inserted_other, there_now, none_of_values}
use Rattle.lx_sound.proofs.Trees.{created_stays, created_rooted, same_rooted, content_stays, content_rooted, unlinked_stays, unlinked_rooted}
use Rattle.lx_sound.proofs.Fewer.{FewerNodes, FewerIn, unlinked_fewer}
use Rattle.lx_sound.proofs.Together.{named_together, opened_together, piped_together, moved_together, held_together, created_together, content_together, unlinked_together}
use Rattle.lx_sound.proofs.Reached.{named_reached, opened_reached, pipes_reached, held_reached, moved_reached, created_reached, content_reached, unlinked_reached}
use Rattle.lx_sound.proofs.Entries.{SameEntry, SameEntries, entries_stay}

pub data Change : Type 0 where
  -- so many bytes of the input are read
  Takes : ℕ → Change
  -- the console has more bytes
  Prints : List ℕ → Change
  -- these are the entries
  Enters : Entries → Change
  -- a descriptor of the process names a description that is there
  Names : ℕ → Slot → Change
  -- descriptors are closed
  Loses : Held → Change
  -- a descriptor of the process names a new description
  Opens : ℕ → Description → Bool → Change
  -- there is a pipe more, and two descriptors of the process name its ends
  Pipes : ℕ → ℕ → Bool → Change
  -- a description is at another offset
  Seeks : ℕ → ℕ → Change
  -- a pipe holds other bytes
  Holds : ℕ → (List ℕ → List ℕ) → Change
  -- a node is made at a path
  Makes : Path → Node → Change
  -- a file has other bytes
  Writes : ℕ → (List ℕ → List ℕ) → Change
  -- a path is taken away
  Unlinks : Path → Change

-- a pipe, with both its ends
abbrev pub piped : Shared → ℕ → ℕ → ℕ → Bool → FdTable
piped s p first second closes =
    let pipe = vacant s.fds.pipes in
    with_end (with_end (opens.with_pipe s.fds pipe []) p first (ReadEnd pipe) true closes) p second (WriteEnd pipe) false closes

abbrev pub done : Shared → ℕ → Change → Shared
done s p (Takes n) = record s { input = drop n s.input }
done s p (Prints bytes) = record s { console = s.console ++ bytes }
done s p (Enters m) = with_entries s m
done s p (Names fd named) = with_fds s (opens.with_slot s.fds p fd named)
done s p (Loses h) = with_held s h
done s p (Opens fd d closes) = with_fds s (opens.opened s.fds p fd d closes)
done s p (Pipes first second closes) = with_fds s (piped s p first second closes)
done s p (Seeks n offset) = with_fds s (opens.with_offset s.fds n offset)
done s p (Holds pipe f) = with_fds s (opens.with_held s.fds pipe f)
done s p (Makes path x) = with_tree s (created s.tree path x)
done s p (Writes node f) = with_tree s (with_content s.tree node f)
done s p (Unlinks path) = with_tree s (unlinked s.tree s.fds path)

-- the path names a file, or an empty directory in which no process is
abbrev pub IsRemovable : Shared → Path → Type 0
IsRemovable s path =
    (path ≡ [] → ⊥)
    × ((is_directory (node_at s.tree path) ≡ false) ⊎ ((is_empty s.tree path ≡ true) × (is_used s path ≡ false)))

-- what holds where a change is made
abbrev pub IsDue : Shared → ℕ → Change → Type 0
IsDue s p (Takes n) = Unit {0}
IsDue s p (Prints bytes) = has_space s 0 (length bytes) ≡ true
IsDue s p (Enters m) = SameEntries s.entries m × (EntriesSound s.tree s.entries → EntriesSound s.tree m)
IsDue s p (Names fd named) = (fd < most_fds) × IsSome (maps.get s.fds.descriptions named.description) × IsFree s.fds p fd
IsDue s p (Loses h) =
    (HoldTogether s.tree s.fds → HoldTogether h.tree h.fds) × FewerIn s.tree s.fds h
    × (AreReached s.tree s.fds → AreReached h.tree h.fds)
IsDue s p (Opens fd d closes) = (fd < most_fds) × (is_there s.tree s.fds d.object ≡ true) × (d.offset ≡ 0) × IsFree s.fds p fd
IsDue s p (Pipes first second closes) =
    (first < most_fds) × (second < most_fds) × IsFree s.fds p first
    × IsFree (with_end (opens.with_pipe s.fds (vacant s.fds.pipes) []) p first (ReadEnd (vacant s.fds.pipes)) true closes) p second
IsDue s p (Seeks n offset) = offset ≤ largest_file
IsDue s p (Holds pipe f) = (bytes : List ℕ) → maps.get s.fds.pipes pipe ≡ Some bytes → length (f bytes) ≤ pipe_size
IsDue s p (Makes path x) =
    (has_room s.tree ≡ true) × (maps.get s.tree.names path ≡ None)
    × (is_directory (node_at s.tree (parent path)) ≡ true) × (size_of x ≡ 0) × (path ≡ slash ∷ [] → ⊥)
IsDue s p (Writes node f) =
    (length (f (content s.tree node)) ≤ largest_file)
    × (has_space s (length (content s.tree node)) (length (f (content s.tree node))) ≡ true)
IsDue s p (Unlinks path) = IsRemovable s path

lives_on : (o o' : Option Entry) → SameEntry o o' → lives o ≡ true → lives o' ≡ true
lives_on None None same e = e
lives_on None (Some y) same e = absurd same
lives_on (Some x) None same e = let dead : lives (Some x) ≡ false = ap (λ l. lives (Some (record x { life = l }))) same.1 in absurd (cc (dead, e))
lives_on (Some x) (Some y) same e = ap (λ l. lives (Some (record x { life = l }))) same ∙ e

module _ (s : Shared) (p : ℕ) (h : PartsSound s) where
  files_done : (c : Change) → IsDue s p c → HoldTogether (done s p c).tree (done s p c).fds
  files_done (Takes n) due = h.files
  files_done (Prints bytes) due = h.files
  files_done (Enters m) due = h.files
  files_done (Names fd named) due = named_together s.tree s.fds h.files p fd named due.1
  files_done (Loses x) due = due.0 h.files
  files_done (Opens fd d closes) due = opened_together s.tree s.fds h.files p fd d closes due.1
  files_done (Pipes first second closes) due =
      let pipe = vacant s.fds.pipes in
      let zero : FdTable = opens.with_pipe s.fds pipe [] in
      let there : is_some (maps.get zero.pipes pipe) ≡ true = ap is_some (there_now nat_cmp_total s.fds.pipes pipe []) in
      let one : FdTable = with_end zero p first (ReadEnd pipe) true closes in
      opened_together s.tree one (opened_together s.tree zero (piped_together s.tree s.fds h.files pipe [] (omega arith)) p first (end_of (ReadEnd pipe) true) closes there) p second (end_of (WriteEnd pipe) false) closes there
  files_done (Seeks n offset) due = moved_together s.tree s.fds h.files n offset
  files_done (Holds pipe f) due = held_together s.tree s.fds h.files pipe f due
  files_done (Makes path x) due = created_together s.tree s.fds h.files path x
  files_done (Writes node f) due = content_together s.tree s.fds h.files node f
  files_done (Unlinks path) due = unlinked_together s.tree s.fds h.files path

  -- The tree.

  either_empty : (path : Path) → IsRemovable s path → (is_directory (node_at s.tree path) ≡ false) ⊎ (is_empty s.tree path ≡ true)
  either_empty path due = ⊎_elim (λ file. inl file) (λ empty. inr empty.0) due.1

  rooted_done : (c : Change) → IsDue s p c → IsRooted (done s p c).tree
  rooted_done (Takes n) due = h.rooted
  rooted_done (Prints bytes) due = h.rooted
  rooted_done (Enters m) due = h.rooted
  rooted_done (Names fd named) due = h.rooted
  rooted_done (Loses x) due = let fewer = due.1 in same_rooted s.tree x.tree fewer.names (λ q there. ap is_directory (fewer.paths q) ∙ there) h.rooted
  rooted_done (Opens fd d closes) due = h.rooted
  rooted_done (Pipes first second closes) due = h.rooted
  rooted_done (Seeks n offset) due = h.rooted
  rooted_done (Holds pipe f) due = h.rooted
  rooted_done (Makes path x) due = created_rooted s.tree path x due.1 due.2 due.4 h.rooted
  rooted_done (Writes node f) due = content_rooted s.tree node f h.rooted
  rooted_done (Unlinks path) due = unlinked_rooted s.tree s.fds path due.0 (either_empty path due) h.rooted

  -- The entries.

  bytes_alike : (xs : List ℕ) → bytes_eq xs xs ≡ true
  bytes_alike xs = (bytes_eq-Decides xs xs).1 refl

  -- a tree in which the directories of processes are
  in_tree : (tree : Tree) → ((q : ℕ) (e : Entry) → maps.get s.entries q ≡ Some e → is_directory (node_at s.tree e.directory) ≡ true → is_directory (node_at tree e.directory) ≡ true) → EntriesSound tree s.entries
  in_tree tree stays q e is = record { directory = stays q e is (h.entries q e is).directory; signals = (h.entries q e is).signals }

  not_removed : (path : Path) → IsRemovable s path → (q : ℕ) (e : Entry) → maps.get s.entries q ≡ Some e → e.directory ≡ path → ⊥
  not_removed path due q e is same = ⊎_elim
      (λ file. let there : is_directory (node_at s.tree path) ≡ true = subst (λ i. is_directory (node_at s.tree i) ≡ true) same (h.entries q e is).directory in absurd (cc (file, there)))
      (λ empty. let unlike : bytes_eq e.directory path ≡ false = none_of_values (λ x. bytes_eq x.directory path) s.entries q e empty.1 is in
      let alike : bytes_eq e.directory path ≡ true = ap (bytes_eq e.directory) (sym same) ∙ bytes_alike e.directory in
      absurd (cc (unlike, alike)))
      due.1

  entries_done : (c : Change) → IsDue s p c → EntriesSound (done s p c).tree (done s p c).entries
  entries_done (Takes n) due = h.entries
  entries_done (Prints bytes) due = h.entries
  entries_done (Enters m) due = due.1 h.entries
  entries_done (Names fd named) due = h.entries
  entries_done (Loses x) due = in_tree x.tree (λ q e is there. ap is_directory (due.1.paths e.directory) ∙ there)
  entries_done (Opens fd d closes) due = h.entries
  entries_done (Pipes first second closes) due = h.entries
  entries_done (Seeks n offset) due = h.entries
  entries_done (Holds pipe f) due = h.entries
  entries_done (Makes path x) due = in_tree (created s.tree path x) (λ q e is there. created_stays s.tree path x due.1 e.directory there)
  entries_done (Writes node f) due = in_tree (with_content s.tree node f) (λ q e is there. content_stays s.tree node f e.directory there)
  entries_done (Unlinks path) due = in_tree (unlinked s.tree s.fds path) (λ q e is there. unlinked_stays s.tree s.fds path e.directory (not_removed path due q e is) there)

  -- The owners of descriptors.

  named_owned : (fds : FdTable) → AreOwned fds s.entries → (fd : ℕ) (named : Slot) → fd < most_fds → lives (maps.get s.entries p) ≡ true → AreOwned (opens.with_slot fds p fd named) s.entries
  named_owned fds owned fd named below alive q n less there = go (pair q n == pair p fd) refl
    where
      go : (b : Bool) → (pair q n == pair p fd) ≡ b → lives (maps.get s.entries q) ≡ true
      go true eq =
          let key : pair q n ≡ pair p fd = grind (arith, nat_tests, eq) in
          let same : q ≡ p = omega (arith, key, below, less) in
          subst (λ i. lives (maps.get s.entries i) ≡ true) (sym same) alive
      go false other = owned q n less (subst (λ (o : Option Slot). IsSome o) (inserted_other fds.slots (pair p fd) named (pair q n) other) there)

  pipes_owned : (pipe : ℕ) (f : List ℕ → List ℕ) (o : Option (List ℕ)) → AreOwned (opens.pipe_changed s.fds pipe f o) s.entries
  pipes_owned pipe f None = h.owned
  pipes_owned pipe f (Some bytes) = h.owned

  owned_done : lives (maps.get s.entries p) ≡ true → (c : Change) → IsDue s p c → AreOwned (done s p c).fds (done s p c).entries
  owned_done alive (Takes n) due = h.owned
  owned_done alive (Prints bytes) due = h.owned
  owned_done alive (Enters m) due = λ q fd below there. lives_on (maps.get s.entries q) (maps.get m q) (due.0.each q) (h.owned q fd below there)
  owned_done alive (Names fd named) due = named_owned s.fds h.owned fd named due.0 alive
  owned_done alive (Loses x) due = λ q fd below there. h.owned q fd below (before (maps.get x.fds.slots (pair q fd)) (maps.get s.fds.slots (pair q fd)) (due.1.slots (pair q fd)) there)
    where
      before : (o o' : Option Slot) → ((y : Slot) → o ≡ Some y → o' ≡ Some y) → IsSome o → IsSome o'
      before None o' f e = absurd (cc e)
      before (Some y) o' f e = ap is_some (f y refl)
  owned_done alive (Opens fd d closes) due =
      named_owned (opens.with_description s.fds (vacant s.fds.descriptions) d) h.owned fd (record { description = vacant s.fds.descriptions; closes_on_exec = closes }) due.0 alive
  owned_done alive (Pipes first second closes) due =
      let pipe = vacant s.fds.pipes in
      let zero : FdTable = opens.with_pipe s.fds pipe [] in
      let one : FdTable = with_end zero p first (ReadEnd pipe) true closes in
      named_owned (opens.with_description one (vacant one.descriptions) (end_of (WriteEnd pipe) false))
      (named_owned (opens.with_description zero (vacant zero.descriptions) (end_of (ReadEnd pipe) true)) h.owned first (record { description = vacant zero.descriptions; closes_on_exec = closes }) due.0 alive)
      second (record { description = vacant one.descriptions; closes_on_exec = closes }) due.1 alive
  owned_done alive (Seeks n offset) due = h.owned
  owned_done alive (Holds pipe f) due = pipes_owned pipe f (maps.get s.fds.pipes pipe)
  owned_done alive (Makes path x) due = h.owned
  owned_done alive (Writes node f) due = h.owned
  owned_done alive (Unlinks path) due = h.owned

  -- The bounds.

  offset_within : (n : ℕ) (d : Description) → d.offset ≤ largest_file → (i : ℕ) (x : Description) → maps.get (maps.insert s.fds.descriptions n d) i ≡ Some x → x.offset ≤ largest_file
  offset_within n d le i x is = ⊎_elim (λ same. subst (λ (y : Description). y.offset ≤ largest_file) same le) (λ old. h.within.offsets i x old) (inserted nat_cmp_total s.fds.descriptions n d i x is)

  moved_within : (n offset : ℕ) → offset ≤ largest_file → (o : Option Description) → (i : ℕ) (x : Description) → maps.get (moved s.fds.descriptions n offset o) i ≡ Some x → x.offset ≤ largest_file
  moved_within n offset le None = h.within.offsets
  moved_within n offset le (Some d) = offset_within n (record d { offset = offset }) le

  pipes_within : (pipe : ℕ) (f : List ℕ → List ℕ) (o : Option (List ℕ)) → AreWithin (with_fds s (opens.pipe_changed s.fds pipe f o))
  pipes_within pipe f None = record { nodes = h.within.nodes; files = h.within.files; contents = h.within.contents; offsets = h.within.offsets }
  pipes_within pipe f (Some bytes) = record { nodes = h.within.nodes; files = h.within.files; contents = h.within.contents; offsets = h.within.offsets }

  -- other descriptions
  described : (fds : FdTable) → ((n : ℕ) (d : Description) → maps.get fds.descriptions n ≡ Some d → d.offset ≤ largest_file) → AreWithin (with_fds s fds)
  described fds offsets = record { nodes = h.within.nodes; files = h.within.files; contents = h.within.contents; offsets = offsets }

  prints_within : (bytes : List ℕ) → has_space s 0 (length bytes) ≡ true → AreWithin (record s { console = s.console ++ bytes })
  prints_within bytes space = record {
    nodes = h.within.nodes;
    files = h.within.files;
    contents =
        let sum : length (s.console ++ bytes) ≡ length s.console + length bytes = length-append s.console bytes in
        let le : contents s.tree + length s.console - 0 + length bytes ≤ most_contents = grind (arith, nat_tests, space) in
        omega (arith, sum, le);
    offsets = h.within.offsets;
  }

  makes_within : (path : Path) (x : Node) → has_room s.tree ≡ true → size_of x ≡ 0 → AreWithin (with_tree s (created s.tree path x))
  makes_within path x room empty = record {
    nodes = subst (λ n. n ≤ most_nodes) (sym (maps.len-insert nat_cmp_total s.tree.nodes v x)) (go (maps.contains_key s.tree.nodes v) (grind (arith, nat_tests, room)));
    files = λ n y is. ⊎_elim (λ same. let size : size_of y ≡ 0 = subst (λ z. size_of z ≡ 0) same empty in omega (arith, size)) (λ old. h.within.files n y old) (inserted nat_cmp_total s.tree.nodes v x n y is);
    contents =
        let sum : total size_of (maps.insert s.tree.nodes v x) + weight size_of (maps.get s.tree.nodes v) ≡ total size_of s.tree.nodes + size_of x = total-insert nat_cmp_total size_of s.tree.nodes v x in
        let le : contents s.tree + length s.console ≤ most_contents = h.within.contents in
        omega (arith, sum, le, empty);
    offsets = h.within.offsets;
  }
    where
      v : ℕ
      v = vacant s.tree.nodes

      go : (b : Bool) → maps.len s.tree.nodes + 1 ≤ most_nodes → cond b (maps.len s.tree.nodes) (maps.len s.tree.nodes + 1) ≤ most_nodes
      go true le = omega (arith, le)
      go false le = le

  size_changed : (f : List ℕ → List ℕ) (x : Node) → length (f (bytes_of (Some x))) ≤ largest_file → size_of (changed_node f x) ≤ largest_file
  size_changed f (File bytes) le = le
  size_changed f Directory le = omega arith

  -- as many bytes as before without its own, and its own now
  size_moved : (f : List ℕ → List ℕ) (x : Node) (all more : ℕ) → nat_le (all - length (bytes_of (Some x)) + length (f (bytes_of (Some x)))) most_contents ≡ true → all ≤ most_contents → size_of x ≤ all
      → more + size_of x ≡ all + size_of (changed_node f x) → more ≤ most_contents
  size_moved f (File bytes) all more space le in_all sum = let few : all - length bytes + length (f bytes) ≤ most_contents = grind (arith, nat_tests, space) in omega (arith, few, in_all, sum)
  size_moved f Directory all more space le in_all sum = omega (arith, le, sum)

  writes_within : (node : ℕ) (f : List ℕ → List ℕ) (o : Option Node) → maps.get s.tree.nodes node ≡ o → length (f (bytes_of o)) ≤ largest_file → has_space s (length (bytes_of o)) (length (f (bytes_of o))) ≡ true
      → AreWithin (with_tree s (record s.tree { nodes = changed_file s.tree.nodes node f o }))
  writes_within node f None is le space = record { nodes = h.within.nodes; files = h.within.files; contents = h.within.contents; offsets = h.within.offsets }
  writes_within node f (Some x) is le space = record {
    nodes = subst (λ n. n ≤ most_nodes) (sym (maps.len-insert nat_cmp_total s.tree.nodes node y ∙ ap (λ b. cond b (maps.len s.tree.nodes) (maps.len s.tree.nodes + 1)) (ap is_some is))) h.within.nodes;
    files = λ n z at. ⊎_elim (λ same. subst (λ w. size_of w ≤ largest_file) same (size_changed f x le)) (λ old. h.within.files n z old) (inserted nat_cmp_total s.tree.nodes node y n z at);
    contents =
        let sum : total size_of (maps.insert s.tree.nodes node y) + weight size_of (maps.get s.tree.nodes node) ≡ total size_of s.tree.nodes + size_of y = total-insert nat_cmp_total size_of s.tree.nodes node y in
        let own : weight size_of (maps.get s.tree.nodes node) ≡ size_of x = ap (weight size_of) is in
        let at_most : size_of x ≤ total size_of s.tree.nodes = one_of_all in
        size_moved f x (all_bytes s) (total size_of (maps.insert s.tree.nodes node y) + length s.console) space h.within.contents (omega (arith, at_most)) (omega (arith, sum, own));
    offsets = h.within.offsets;
  }
    where
      y : Node
      y = changed_node f x

      one_of_all : size_of x ≤ total size_of s.tree.nodes
      one_of_all =
          let left : total size_of (maps.remove s.tree.nodes node) + weight size_of (maps.get s.tree.nodes node) ≡ total size_of s.tree.nodes = total-remove nat_cmp_total maps.nat_cmp-IsAntisymmetric size_of s.tree.nodes node in
          let own : weight size_of (maps.get s.tree.nodes node) ≡ size_of x = ap (weight size_of) is in
          omega (arith, left, own)

  fewer_within : (t : Shared) → t.console ≡ s.console → FewerNodes s.tree.nodes t.tree.nodes → ((n : ℕ) (d : Description) → maps.get t.fds.descriptions n ≡ Some d → maps.get s.fds.descriptions n ≡ Some d) → AreWithin t
  fewer_within t console fewer descriptions = record {
    nodes = let few = fewer.few in let le = h.within.nodes in omega (arith, few, le);
    files = λ n x is. h.within.files n x (fewer.nodes n x is);
    contents = let sum = fewer.sum in let le : total size_of s.tree.nodes + length s.console ≤ most_contents = h.within.contents in
        rw console (omega (arith, sum, le));
    offsets = λ n d is. h.within.offsets n d (descriptions n d is);
  }

  within_done : (c : Change) → IsDue s p c → AreWithin (done s p c)
  within_done (Takes n) due = record { nodes = h.within.nodes; files = h.within.files; contents = h.within.contents; offsets = h.within.offsets }
  within_done (Prints bytes) due = prints_within bytes due
  within_done (Enters m) due = record { nodes = h.within.nodes; files = h.within.files; contents = h.within.contents; offsets = h.within.offsets }
  within_done (Names fd named) due = described (opens.with_slot s.fds p fd named) h.within.offsets
  within_done (Loses x) due = fewer_within (with_held s x) refl due.1.kept due.1.descriptions
  within_done (Opens fd d closes) due = described (opens.opened s.fds p fd d closes) (offset_within (vacant s.fds.descriptions) d (let zero = due.2 in omega (arith, zero)))
  within_done (Pipes first second closes) due = described (piped s p first second closes) (λ i x is.
      let pipe = vacant s.fds.pipes in
      let one : FdTable = with_end (opens.with_pipe s.fds pipe []) p first (ReadEnd pipe) true closes in
      ⊎_elim (λ same. subst (λ (y : Description). y.offset ≤ largest_file) same (omega arith))
      (λ old. offset_within (vacant s.fds.descriptions) (end_of (ReadEnd pipe) true) (omega arith) i x old)
      (inserted nat_cmp_total one.descriptions (vacant one.descriptions) (end_of (WriteEnd pipe) false) i x is))
  within_done (Seeks n offset) due = described (opens.with_offset s.fds n offset) (moved_within n offset due (maps.get s.fds.descriptions n))
  within_done (Holds pipe f) due = pipes_within pipe f (maps.get s.fds.pipes pipe)
  within_done (Makes path x) due = makes_within path x due.0 due.3
  within_done (Writes node f) due = writes_within node f (maps.get s.tree.nodes node) refl due.0 due.1
  within_done (Unlinks path) due = fewer_within (with_tree s (unlinked s.tree s.fds path)) refl (unlinked_fewer s.tree s.fds path) (λ n d is. is)

  -- What is there is reached.

  reached_done : (c : Change) → IsDue s p c → AreReached (done s p c).tree (done s p c).fds
  reached_done (Takes n) due = h.reached
  reached_done (Prints bytes) due = h.reached
  reached_done (Enters m) due = h.reached
  reached_done (Names fd named) due = named_reached s.tree s.fds h.reached p fd named due.2
  reached_done (Loses x) due = due.2 h.reached
  reached_done (Opens fd d closes) due = opened_reached s.tree s.fds h.reached p fd d closes due.3
  reached_done (Pipes first second closes) due =
      pipes_reached s.tree s.fds h.reached p first second (vacant s.fds.pipes) (end_of (ReadEnd (vacant s.fds.pipes)) true) (end_of (WriteEnd (vacant s.fds.pipes)) false) closes refl due.2 due.3
  reached_done (Seeks n offset) due = moved_reached s.tree s.fds h.reached n offset
  reached_done (Holds pipe f) due = held_reached s.tree s.fds h.reached pipe f
  reached_done (Makes path x) due = created_reached s.tree s.fds h.reached path x due.1
  reached_done (Writes node f) due = content_reached s.tree s.fds h.reached node f
  reached_done (Unlinks path) due = unlinked_reached s.tree s.fds h.reached path

  pub parts_done : lives (maps.get s.entries p) ≡ true → (c : Change) → IsDue s p c → PartsSound (done s p c)
  parts_done alive c due = record {
    files = files_done c due;
    reached = reached_done c due;
    rooted = rooted_done c due;
    entries = entries_done c due;
    owned = owned_done alive c due;
    within = within_done c due;
  }

pub entries_kept : (s : Shared) (p : ℕ) (c : Change) → IsDue s p c → SameEntries s.entries (done s p c).entries
entries_kept s p (Takes n) due = entries_stay s.entries
entries_kept s p (Prints bytes) due = entries_stay s.entries
entries_kept s p (Enters m) due = due.0
entries_kept s p (Names fd named) due = entries_stay s.entries
entries_kept s p (Loses x) due = entries_stay s.entries
entries_kept s p (Opens fd d closes) due = entries_stay s.entries
entries_kept s p (Pipes first second closes) due = entries_stay s.entries
entries_kept s p (Seeks n offset) due = entries_stay s.entries
entries_kept s p (Holds pipe f) due = entries_stay s.entries
entries_kept s p (Makes path x) due = entries_stay s.entries
entries_kept s p (Writes node f) due = entries_stay s.entries
entries_kept s p (Unlinks path) due = entries_stay s.entries

pub lives_after : (s : Shared) (p : ℕ) (c : Change) → IsDue s p c → lives (maps.get s.entries p) ≡ true → lives (maps.get (done s p c).entries p) ≡ true
lives_after s p c due alive = lives_on (maps.get s.entries p) (maps.get (done s p c).entries p) ((entries_kept s p c due).each p) alive

-- other entries, whoever changes them
pub entered : (s : Shared) → PartsSound s → (m : Entries) → SameEntries s.entries m → (EntriesSound s.tree s.entries → EntriesSound s.tree m) → PartsSound (with_entries s m)
entered s h m same sound = record {
  files = h.files;
  reached = h.reached;
  rooted = h.rooted;
  entries = sound h.entries;
  owned = λ q fd below there. lives_on (maps.get s.entries q) (maps.get m q) (same.each q) (h.owned q fd below there);
  within = record { nodes = h.within.nodes; files = h.within.files; contents = h.within.contents; offsets = h.within.offsets };
}

pub ended_kept : (s : Shared) (p : ℕ) (c : Change) → (done s p c).ended ≡ s.ended
ended_kept s p (Takes n) = refl
ended_kept s p (Prints bytes) = refl
ended_kept s p (Enters m) = refl
ended_kept s p (Names fd named) = refl
ended_kept s p (Loses x) = refl
ended_kept s p (Opens fd d closes) = refl
ended_kept s p (Pipes first second closes) = refl
ended_kept s p (Seeks n offset) = refl
ended_kept s p (Holds pipe f) = refl
ended_kept s p (Makes path x) = refl
ended_kept s p (Writes node f) = refl
ended_kept s p (Unlinks path) = refl

pub limits_kept : (s : Shared) (p : ℕ) (c : Change) → (done s p c).limits ≡ s.limits
limits_kept s p (Takes n) = refl
limits_kept s p (Prints bytes) = refl
limits_kept s p (Enters m) = refl
limits_kept s p (Names fd named) = refl
limits_kept s p (Loses x) = refl
limits_kept s p (Opens fd d closes) = refl
limits_kept s p (Pipes first second closes) = refl
limits_kept s p (Seeks n offset) = refl
limits_kept s p (Holds pipe f) = refl
limits_kept s p (Makes path x) = refl
limits_kept s p (Writes node f) = refl
limits_kept s p (Unlinks path) = refl
