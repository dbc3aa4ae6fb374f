-- What the manual pages say of some calls, each a consequence of the call's definition.
use Rattle.std.specs.Prelude.{◌≡◌, ℕ, ◌==◌, ◌++◌, true, false, List, [], length, take, drop, Option, Some, None}
use Rattle.std.specs.FinMap as maps
use Rattle.std.specs.Option.{option_map}
use Rattle.lx_abi.specs.declared.log.Call.{Call}
use Rattle.lx_model.specs.Machine.{Returns}
use Rattle.lx_files.specs.Paths.{Path}
use Rattle.lx_files.specs.Trees.{content}
use Rattle.lx_files.specs.declared.tree.Tree.{Tree}
use Rattle.lx_open.specs.Opens.{has_readers, has_writers, held, is_open_node, slot}
use Rattle.lx_open.specs.Releases.{unlinked}
use Rattle.lx_open.specs.declared.description.Description.{Description}
use Rattle.lx_open.specs.declared.description.Slot.{Slot}
use Rattle.lx_open.specs.declared.fd_table.FdTable.{FdTable}
use Rattle.lx_proc.specs.Answers.{is_blocked, low_argument}
use Rattle.lx_proc.specs.declared.state.Shared.{Shared}
use Rattle.lx_proc.specs.declared.state.UserState.{UserState}
use Rattle.lx_sig.specs.Sigprocmask.{with_mask}
use Rattle.lx_sig.specs.declared.state.Signals.{Signals}
use Rattle.rv_mem.specs.Memory.{written}
use Rattle.lx_fcalls.specs.Dup.{dup}
use Rattle.lx_fcalls.specs.Read.{reads_pipe}
use Rattle.lx_fcalls.specs.Write.{writes_pipe, writes_file, writes_at}
use Rattle.lx_pcalls.specs.Kill.{kill}
use Rattle.lx_pcalls.specs.Wait4.{told_child, word_in}

-- pipe(7): a write goes behind what a pipe holds, ..
abbrev pub WritesGoBehind : Type 0
WritesGoBehind =
    (s : Shared) (p : ℕ) (b : UserState) (pipe : ℕ) (there bytes : List ℕ) (t : Shared) (c : UserState) (x : ℕ) →
    maps.get s.fds.pipes pipe ≡ Some there → has_readers s.fds pipe ≡ true →
    writes_pipe s p b pipe bytes ≡ Returns t c x → held t.fds pipe ≡ there ++ bytes

-- .. and a read takes from its front: what it gives and what is left are what was there, so each byte comes once
abbrev pub ReadsTakeTheFront : Type 0
ReadsTakeTheFront = (s : Shared) (b : UserState) (pipe at n : ℕ) (there : List ℕ) (t : Shared) (c : UserState) (x : ℕ) →
    maps.get s.fds.pipes pipe ≡ Some there → reads_pipe s b pipe at n ≡ Returns t c x →
    (c.memory ≡ written b.memory at (take n there)) × (x ≡ length (take n there)) × (held t.fds pipe ≡ drop n there)

-- the end of file comes after the last writer: a read of an empty pipe without writers doesn't wait, and gives nothing
abbrev pub EndsWithItsWriters : Type 0
EndsWithItsWriters = (s : Shared) (b : UserState) (pipe at n : ℕ) →
    held s.fds pipe ≡ [] → has_writers s.fds pipe ≡ false →
    (is_blocked (reads_pipe s b pipe at n) ≡ false)
    × ((t : Shared) (c : UserState) (x : ℕ) → reads_pipe s b pipe at n ≡ Returns t c x → x ≡ 0)

-- the description that a descriptor names, where its offset is
abbrev pub described : FdTable → ℕ → ℕ → Option ℕ
described fds p fd = option_map (λ (named : Slot). named.description) (slot fds p fd)

-- dup(2): the copy names the same description, so both have one offset
abbrev pub CopiesShareTheOffset : Type 0
CopiesShareTheOffset = (s : Shared) (p : ℕ) (call : Call) (b : UserState) (t : Shared) (c : UserState) (fd : ℕ) →
    dup s p call b ≡ Returns t c fd → described t.fds p fd ≡ described s.fds p (low_argument call 0)

-- open(2), O_APPEND: a write begins at the end of the file, wherever the offset is
abbrev pub AppendsAtTheEnd : Type 0
AppendsAtTheEnd = (s : Shared) (b : UserState) (named : Slot) (d : Description) (node : ℕ) (bytes : List ℕ) →
    d.appends ≡ true → (length bytes == 0) ≡ false →
    writes_file s b named d node bytes ≡ writes_at s b named node (length (content s.tree node)) bytes

-- unlink(2): a file that some process has open lives on without its name
abbrev pub OpenFilesLiveOn : Type 0
OpenFilesLiveOn = (tree : Tree) (fds : FdTable) (path : Path) (node : ℕ) →
    maps.get tree.names path ≡ Some node → is_open_node fds node ≡ true →
    maps.get (unlinked tree fds path).nodes node ≡ maps.get tree.nodes node

-- wait(2): what a child had to tell is told once, its end, its stop and its waking, whatever the options
abbrev pub ToldOnce : Type 0
ToldOnce = (s : Shared) (n options : ℕ) → word_in options (maps.get (told_child s n).entries n) ≡ None

-- kill(2): signal 0 sends nothing
abbrev pub AsksOnly : Type 0
AsksOnly = (s : Shared) (p : ℕ) (call : Call) (b : UserState) (t : Shared) (c : UserState) (x : ℕ) →
    low_argument call 1 ≡ 0 → kill s p call b ≡ Returns t c x → t ≡ s

-- sigprocmask(2): a mask that is set, and the old one set again, is as before
abbrev pub MaskComesBack : Type 0
MaskComesBack = (g : Signals) (set : ℕ) → with_mask (with_mask g 2 (Some set)) 2 (Some g.mask) ≡ g
