-- The file tree as a tree of directories.
use Rattle.std.specs.Prelude.{◌≡◌, Bool, true, false, [], ◌∷◌, Option, Some, None, IsSome}
use Rattle.std.specs.FinMap as maps
use Rattle.lx_abi.specs.declared.outcome.Node.{Node}
use Rattle.lx_abi.specs.declared.outcome.Node.TheVariants.{File, Directory}
use Rattle.lx_files.specs.Paths.{Path, parent, slash}
use Rattle.lx_files.specs.Trees.{node_at}
use Rattle.lx_files.specs.declared.tree.Tree.{Tree}

abbrev pub is_directory : Option Node → Bool
is_directory None = false
is_directory (Some (File bytes)) = false
is_directory (Some Directory) = true

pub record IsRooted (tree : Tree) : Type 0 where
  pub root : is_directory (node_at tree []) ≡ true
  -- the parent of each path that names something is a directory
  pub parents : (path : Path) → IsSome (maps.get tree.names path) → is_directory (node_at tree (parent path)) ≡ true
  -- a slash alone names nothing: the root's path is empty
  pub no_slash : maps.get tree.names (slash ∷ []) ≡ None
