-- What is there is reached: the other direction of what holds together.
use Rattle.std.specs.Prelude.{◌≡◌, ℕ, ◌||◌, true, List, Some}
use Rattle.std.specs.FinMap as maps
use Rattle.lx_abi.specs.declared.outcome.Node.{Node}
use Rattle.lx_files.specs.Trees.{has_path}
use Rattle.lx_files.specs.declared.tree.Tree.{Tree}
use Rattle.lx_open.specs.Opens.{is_named, has_readers, has_writers, is_open_node}
use Rattle.lx_open.specs.declared.description.Description.{Description}
use Rattle.lx_open.specs.declared.fd_table.FdTable.{FdTable}

pub record AreReached (tree : Tree) (fds : FdTable) : Type 0 where
  -- some descriptor names each description
  pub named : (n : ℕ) (d : Description) → maps.get fds.descriptions n ≡ Some d → is_named fds n ≡ true
  -- an end of each pipe is open
  pub ended : (n : ℕ) (bytes : List ℕ) → maps.get fds.pipes n ≡ Some bytes →
      (has_readers fds n || has_writers fds n) ≡ true
  -- each node has a path, or is open
  pub placed : (n : ℕ) (x : Node) → maps.get tree.nodes n ≡ Some x → (has_path tree n || is_open_node fds n) ≡ true
