-- The file tree: a map from path to node, and a map from node to content or directory.
use Rattle.std.specs.Prelude.{ℕ, nat_lt, not, Bool, List, Option}
use Rattle.std.specs.Option.{option_and_then}
use Rattle.std.specs.List.{list_any}
use Rattle.std.specs.FinMap as maps
use Rattle.containers.specs.Vacant.{vacant}
use Rattle.lx_abi.specs.declared.outcome.Node.{Node}
use Rattle.lx_abi.specs.Limits.{most_nodes}
use Rattle.lx_files.specs.Tallies.{total, holds}
use Rattle.lx_files.specs.Paths.{Path, is_under}
use Rattle.lx_files.specs.Kinds.{is_number, size_of, bytes_of, changed_file}
pub use Rattle.lx_files.specs.declared.tree.Tree.{Tree}

-- what stands at a path
abbrev pub node_at : Tree → Path → Option Node
node_at tree path = option_and_then (maps.get tree.nodes) (maps.get tree.names path)

-- some path names the node
abbrev pub has_path : Tree → ℕ → Bool
has_path tree node = holds (is_number node) tree.names

-- nothing lies in the directory
abbrev pub is_empty : Tree → Path → Bool
is_empty tree path = not (list_any (is_under path) (maps.keys tree.names))

-- how many bytes all contents have, those without a path too
abbrev pub contents : Tree → ℕ
contents tree = total size_of tree.nodes

abbrev pub has_room : Tree → Bool
has_room tree = nat_lt (maps.len tree.nodes) most_nodes

abbrev pub content : Tree → ℕ → List ℕ
content tree node = bytes_of (maps.get tree.nodes node)

-- What calls do.

-- a new node at a path
abbrev pub created : Tree → Path → Node → Tree
created tree path node = record {
  names = maps.insert tree.names path (vacant tree.nodes);
  nodes = maps.insert tree.nodes (vacant tree.nodes) node;
}

-- a file's bytes are changed
abbrev pub with_content : Tree → ℕ → (List ℕ → List ℕ) → Tree
with_content tree node f = record tree { nodes = changed_file tree.nodes node f (maps.get tree.nodes node) }

-- the path is taken away; its node stays
abbrev pub without_path : Tree → Path → Tree
without_path tree path = record tree { names = maps.remove tree.names path }

abbrev pub without_node : Tree → ℕ → Tree
without_node tree node = record tree { nodes = maps.remove tree.nodes node }
