-- What goes once nothing names it (POSIX close, unlink): a description that no descriptor names, a pipe without ends,
-- and a node that neither a path nor a description names.
use Rattle.std.specs.Prelude.{◌≡◌, ℕ, Bool, true, false, ◌||◌, not, List, [], ◌∷◌, Option, Some, None, if◌then◌else◌}
use Rattle.std.specs.List.{range_with_len}
use Rattle.std.specs.FinMap as maps
use Rattle.lx_abi.specs.Limits.{most_fds}
use Rattle.lx_files.specs.declared.tree.Tree.{Tree}
use Rattle.lx_files.specs.Trees.{has_path, without_path, without_node}
use Rattle.lx_files.specs.Paths.{Path}
use Rattle.lx_files.specs.Tallies.{holds}
use Rattle.lx_open.specs.Kinds.{Object, Input, Console, ReadEnd, WriteEnd, Opened, Description, Slot, names_description}
use Rattle.lx_open.specs.Opens.{FdTable, pair, slot, description, is_named, has_readers, has_writers, is_open_node}
use Rattle.lx_open.specs.Opens.{with_slot}

-- the tree and the descriptors
pub record Held : Type 0 where
  pub tree : Tree
  pub fds : FdTable

abbrev pub node_released : Tree → FdTable → ℕ → Tree
node_released tree fds node = if has_path tree node || is_open_node fds node then tree else without_node tree node

abbrev pub pipe_released : FdTable → ℕ → FdTable
pipe_released fds pipe =
    if has_readers fds pipe || has_writers fds pipe then fds
    else record fds { pipes = maps.remove fds.pipes pipe }

abbrev pub object_released : Tree → FdTable → Object → Held
object_released tree fds Input = record { tree = tree; fds = fds }
object_released tree fds Console = record { tree = tree; fds = fds }
object_released tree fds (ReadEnd pipe) = record { tree = tree; fds = pipe_released fds pipe }
object_released tree fds (WriteEnd pipe) = record { tree = tree; fds = pipe_released fds pipe }
object_released tree fds (Opened node) = record { tree = node_released tree fds node; fds = fds }

abbrev pub description_dropped : Tree → FdTable → ℕ → Option Description → Held
description_dropped tree fds n None = record { tree = tree; fds = fds }
description_dropped tree fds n (Some d) =
    object_released tree (record fds { descriptions = maps.remove fds.descriptions n }) d.object

unfoldable pub description_released : Tree → FdTable → ℕ → Held
description_released tree fds n =
    if is_named fds n then record { tree = tree; fds = fds }
    else description_dropped tree fds n (description fds n)

abbrev pub slot_closed : Tree → FdTable → ℕ → Option Slot → Held
slot_closed tree fds key None = record { tree = tree; fds = fds }
slot_closed tree fds key (Some s) =
    description_released tree (record fds { slots = maps.remove fds.slots key }) s.description

-- the descriptions and what the pipes hold are the same
abbrev pub AreEndsKept : FdTable → FdTable → Type 0
AreEndsKept fds fds' = (fds'.descriptions ≡ fds.descriptions) × (fds'.pipes ≡ fds.pipes)

-- a descriptor names nothing from now on
unfoldable pub closed : Tree → FdTable → ℕ → ℕ → Held
closed tree fds pid fd = slot_closed tree fds (pair pid fd) (slot fds pid fd)

-- some other descriptor names the description
abbrev pub IsNamedBeside : FdTable → ℕ → ℕ → ℕ → Type 0
IsNamedBeside fds pid fd n = holds (names_description n) (maps.remove fds.slots (pair pid fd)) ≡ true

-- a descriptor names another description, once what it named is closed
abbrev pub renamed : Held → ℕ → ℕ → Slot → Held
renamed h pid fd s = record h { fds = with_slot h.fds pid fd s }

unfoldable pub replaced : Tree → FdTable → ℕ → ℕ → Slot → Held
replaced tree fds pid fd s = renamed (closed tree fds pid fd) pid fd s

abbrev pub unlinked_node : Tree → FdTable → Option ℕ → Tree
unlinked_node tree fds None = tree
unlinked_node tree fds (Some node) = node_released tree fds node

-- a path names nothing from now on
unfoldable pub unlinked : Tree → FdTable → Path → Tree
unlinked tree fds path = unlinked_node (without_path tree path) fds (maps.get tree.names path)

-- Descriptors of a process in a row.

-- all are meant, or those with FD_CLOEXEC alone (fcntl.h)
abbrev pub is_meant : Bool → Option Slot → Bool
is_meant on_exec None = false
is_meant on_exec (Some s) = not on_exec || s.closes_on_exec

abbrev pub closed_if_meant : Bool → Held → ℕ → ℕ → Held
closed_if_meant on_exec h pid fd = if is_meant on_exec (slot h.fds pid fd) then closed h.tree h.fds pid fd else h

unfoldable pub closed_each : Bool → Held → ℕ → List ℕ → Held
closed_each on_exec h pid [] = h
closed_each on_exec h pid (fd ∷ fds) = closed_each on_exec (closed_if_meant on_exec h pid fd) pid fds

-- a process that ends has no descriptors ("Consequences of Process Termination", POSIX _Exit)
unfoldable pub all_closed : Tree → FdTable → ℕ → Held
all_closed tree fds pid = closed_each false (record { tree = tree; fds = fds }) pid (range_with_len 0 most_fds)

-- a new program has those without FD_CLOEXEC (POSIX exec)
unfoldable pub closed_on_exec : Tree → FdTable → ℕ → Held
closed_on_exec tree fds pid = closed_each true (record { tree = tree; fds = fds }) pid (range_with_len 0 most_fds)
