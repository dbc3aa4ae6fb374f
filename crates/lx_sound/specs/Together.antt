-- What holds together of the file tree and the descriptors.
use Rattle.std.specs.Prelude.{◌≡◌, ℕ, ◌≤◌, Bool, true, false, List, length, Option, Some, None, is_some, IsSome}
use Rattle.std.specs.FinMap as maps
use Rattle.lx_abi.specs.Limits.{pipe_size}
use Rattle.lx_abi.specs.declared.outcome.Node.{Node}
use Rattle.lx_abi.specs.declared.outcome.Node.TheVariants.{File, Directory}
use Rattle.lx_files.specs.Paths.{Path}
use Rattle.lx_files.specs.declared.tree.Tree.{Tree}
use Rattle.lx_open.specs.declared.description.Description.{Description}
use Rattle.lx_open.specs.declared.description.Object.{Object}
use Rattle.lx_open.specs.declared.description.Object.TheVariants.{Input, Console, ReadEnd, WriteEnd, Opened}
use Rattle.lx_open.specs.declared.description.Slot.{Slot}
use Rattle.lx_open.specs.declared.fd_table.FdTable.{FdTable}

abbrev pub is_file : Option Node → Bool
is_file None = false
is_file (Some (File bytes)) = true
is_file (Some Directory) = false

-- what a description is of is there: an end's pipe, and a node, which is a file
abbrev pub is_there : Tree → FdTable → Object → Bool
is_there tree fds Input = true
is_there tree fds Console = true
is_there tree fds (ReadEnd pipe) = is_some (maps.get fds.pipes pipe)
is_there tree fds (WriteEnd pipe) = is_some (maps.get fds.pipes pipe)
is_there tree fds (Opened node) = is_file (maps.get tree.nodes node)

pub record HoldTogether (tree : Tree) (fds : FdTable) : Type 0 where
  -- each descriptor's description is there
  pub slots : (key : ℕ) (named : Slot) → maps.get fds.slots key ≡ Some named →
      IsSome (maps.get fds.descriptions named.description)
  -- so is what each description is of
  pub objects : (n : ℕ) (d : Description) → maps.get fds.descriptions n ≡ Some d → is_there tree fds d.object ≡ true
  -- no pipe holds more than one can
  pub pipes : (n : ℕ) (bytes : List ℕ) → maps.get fds.pipes n ≡ Some bytes → length bytes ≤ pipe_size
  -- each path's node is there
  pub names : (path : Path) (n : ℕ) → maps.get tree.names path ≡ Some n → IsSome (maps.get tree.nodes n)
