-- Descriptors: a map from (pid, descriptor) to description, a map from description to what it is of, and the bytes of
-- each pipe.
use Rattle.std.specs.Prelude.{◌≡◌, ℕ, ◌+◌, ◌*◌, ◌==◌, ◌&&◌, not, nat_lt, Bool, List, [], ◌∷◌, Option}
use Rattle.std.specs.Prelude.{Some, None, is_none, find, if◌then◌else◌}
use Rattle.std.specs.Option.{unwrap_or}
use Rattle.std.specs.List.{range_with_len}
use Rattle.std.specs.FinMap as maps
use Rattle.containers.specs.Vacant.{vacant}
use Rattle.lx_abi.specs.Limits.{most_fds}
use Rattle.lx_files.specs.Tallies.{holds}
use Rattle.lx_open.specs.Kinds.{Description, Slot, SlotMap, names_description, reads_pipe}
use Rattle.lx_open.specs.Kinds.{writes_pipe, has_node, moved}
pub use Rattle.lx_open.specs.declared.fd_table.FdTable.{FdTable}

-- the pair as one number
abbrev pub pair : ℕ → ℕ → ℕ
pair pid fd = pid * most_fds + fd

-- what a descriptor names
abbrev pub slot : FdTable → ℕ → ℕ → Option Slot
slot fds pid fd = if nat_lt fd most_fds then maps.get fds.slots (pair pid fd) else None

-- the descriptor names nothing
abbrev pub IsFree : FdTable → ℕ → ℕ → Type 0
IsFree fds pid fd = maps.get fds.slots (pair pid fd) ≡ None

abbrev pub description : FdTable → ℕ → Option Description
description fds n = maps.get fds.descriptions n

-- the lowest free descriptor
unfoldable pub free : SlotMap → ℕ → Option ℕ
free slots pid = find (λ fd. is_none (maps.get slots (pair pid fd))) (range_with_len 0 most_fds)

-- the lowest free descriptor but one
abbrev pub free_but : SlotMap → ℕ → ℕ → Option ℕ
free_but slots pid first =
    find (λ fd. not (fd == first) && is_none (maps.get slots (pair pid fd))) (range_with_len 0 most_fds)

-- some descriptor names the description
abbrev pub is_named : FdTable → ℕ → Bool
is_named fds n = holds (names_description n) fds.slots

-- an end of the pipe is open
abbrev pub has_readers : FdTable → ℕ → Bool
has_readers fds pipe = holds (reads_pipe pipe) fds.descriptions

abbrev pub has_writers : FdTable → ℕ → Bool
has_writers fds pipe = holds (writes_pipe pipe) fds.descriptions

-- some description is of the node
abbrev pub is_open_node : FdTable → ℕ → Bool
is_open_node fds node = holds (has_node node) fds.descriptions

-- what was written to a pipe and not read
abbrev pub held : FdTable → ℕ → List ℕ
held fds pipe = unwrap_or (maps.get fds.pipes pipe) []

-- What calls do.

abbrev pub with_slot : FdTable → ℕ → ℕ → Slot → FdTable
with_slot fds pid fd s = record fds { slots = maps.insert fds.slots (pair pid fd) s }

abbrev pub with_description : FdTable → ℕ → Description → FdTable
with_description fds n d = record fds { descriptions = maps.insert fds.descriptions n d }

-- a descriptor names a new description
abbrev pub opened : FdTable → ℕ → ℕ → Description → Bool → FdTable
opened fds pid fd d closes =
    with_slot (with_description fds (vacant fds.descriptions) d) pid fd
    (record { description = vacant fds.descriptions; closes_on_exec = closes })

abbrev pub with_pipe : FdTable → ℕ → List ℕ → FdTable
with_pipe fds pipe bytes = record fds { pipes = maps.insert fds.pipes pipe bytes }

-- the description of a slot is at another offset
abbrev pub with_offset : FdTable → ℕ → ℕ → FdTable
with_offset fds n offset = record fds { descriptions = moved fds.descriptions n offset (maps.get fds.descriptions n) }

-- the bytes of a pipe that is there are changed
abbrev pub pipe_changed : FdTable → ℕ → (List ℕ → List ℕ) → Option (List ℕ) → FdTable
pipe_changed fds pipe f None = fds
pipe_changed fds pipe f (Some bytes) = with_pipe fds pipe (f bytes)

abbrev pub with_held : FdTable → ℕ → (List ℕ → List ℕ) → FdTable
with_held fds pipe f = pipe_changed fds pipe f (maps.get fds.pipes pipe)

-- A child has its parent's descriptors, of the same descriptions (POSIX fork).

abbrev pub inherited_slot : SlotMap → ℕ → ℕ → Option Slot → SlotMap
inherited_slot slots child fd None = slots
inherited_slot slots child fd (Some s) = maps.insert slots (pair child fd) s

unfoldable pub inherited_each : SlotMap → ℕ → ℕ → List ℕ → SlotMap
inherited_each slots parent child [] = slots
inherited_each slots parent child (fd ∷ fds) =
    inherited_each (inherited_slot slots child fd (maps.get slots (pair parent fd))) parent child fds

unfoldable pub inherited : FdTable → ℕ → ℕ → FdTable
inherited fds parent child = record fds { slots = inherited_each fds.slots parent child (range_with_len 0 most_fds) }

-- no descriptor is open
abbrev pub no_fds : FdTable
no_fds = record { slots = maps.empty; descriptions = maps.empty; pipes = maps.empty }
