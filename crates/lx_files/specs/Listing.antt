-- What is left of a tree.
use Rattle.std.specs.Prelude.{ℕ, nat_lt, Bool, List, length, map}
use Rattle.std.specs.Option.{unwrap_or}
use Rattle.std.specs.List.{filter}
use Rattle.std.specs.FinMap as maps
use Rattle.lx_abi.specs.declared.outcome.Node.TheVariants.{Directory}
use Rattle.lx_abi.specs.declared.outcome.OutcomeFile.{OutcomeFile}
use Rattle.lx_files.specs.Kinds.{NodeMap}
use Rattle.lx_files.specs.Trees.{Tree}

-- the entry isn't the root's
abbrev pub is_named : {X : Type 0} → List ℕ × X → Bool
is_named e = nat_lt 0 (length e.0)

abbrev pub file_of : NodeMap → List ℕ × ℕ → OutcomeFile
file_of nodes e = record { path = e.0; node = unwrap_or (maps.get nodes e.1) Directory }

-- what stands at each path but the root, in byte order
abbrev pub files_of : Tree → List OutcomeFile
files_of tree = map (file_of tree.nodes) (filter is_named (maps.entries tree.names))
