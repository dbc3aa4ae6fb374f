-- What nodes are, and what paths name.
use Rattle.std.specs.Prelude.{◌≡◌, ℕ, ◌==◌, Bool, List, [], length, Option, Some, None}
use Rattle.std.specs.Ordering.{nat_cmp}
use Rattle.std.specs.FinMap as maps
use Rattle.std.specs.FinMap.{FinMap}
use Rattle.lx_abi.specs.declared.outcome.Node.{Node}
use Rattle.lx_abi.specs.declared.outcome.Node.TheVariants.{File, Directory}
use Rattle.lx_files.specs.Paths.{path_cmp}

-- the nodes that paths name; two paths may name one
abbrev pub NameMap : Type 0
NameMap = FinMap path_cmp ℕ

abbrev pub NodeMap : Type 0
NodeMap = FinMap nat_cmp Node

abbrev pub size_of : Node → ℕ
size_of (File bytes) = length bytes
size_of Directory = 0

abbrev pub bytes_of : Option Node → List ℕ
bytes_of None = []
bytes_of (Some (File bytes)) = bytes
bytes_of (Some Directory) = []

-- a file with its bytes changed
abbrev pub changed_node : (List ℕ → List ℕ) → Node → Node
changed_node f (File bytes) = File (f bytes)
changed_node f Directory = Directory

abbrev pub changed_file : NodeMap → ℕ → (List ℕ → List ℕ) → Option Node → NodeMap
changed_file nodes node f None = nodes
changed_file nodes node f (Some x) = maps.insert nodes node (changed_node f x)

abbrev pub is_number : ℕ → ℕ → Bool
is_number n x = x == n

-- some path has the number
abbrev pub IsAny : NameMap → Option ℕ → Type 0
IsAny names None = (path : List ℕ) → maps.get names path ≡ None
IsAny names (Some number) = (path : List ℕ) × (maps.get names path ≡ Some number)
