-- What processes share is within the system's bounds.
use Rattle.std.specs.Prelude.{◌≡◌, ℕ, ◌≤◌, Some}
use Rattle.std.specs.FinMap as maps
use Rattle.lx_abi.specs.Limits.{largest_file, most_contents, most_nodes}
use Rattle.lx_abi.specs.declared.outcome.Node.{Node}
use Rattle.lx_files.specs.Kinds.{size_of}
use Rattle.lx_open.specs.declared.description.Description.{Description}
use Rattle.lx_proc.specs.declared.state.Shared.{Shared}
use Rattle.lx_fcalls.specs.Moving.{all_bytes}

pub record AreWithin (s : Shared) : Type 0 where
  -- files and directories, the root among them
  pub nodes : maps.len s.tree.nodes ≤ most_nodes
  -- each file, those without a path too
  pub files : (n : ℕ) (x : Node) → maps.get s.tree.nodes n ≡ Some x → size_of x ≤ largest_file
  -- all files and the console together
  pub contents : all_bytes s ≤ most_contents
  pub offsets : (n : ℕ) (d : Description) → maps.get s.fds.descriptions n ≡ Some d → d.offset ≤ largest_file
