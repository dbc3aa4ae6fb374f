use Rattle.std.proofs.Common.{◌≡◌, ◌≤◌, length}
use Rattle.lx_files.specs.Paths.{parent}
use Rattle.lx_files.proofs.known.parent.Given as goal

abbrev pub decreases-loop-byte : goal.decreases-loop-byte
decreases-loop-byte l = length l.left

abbrev pub invariant-loop-byte : goal.invariant-loop-byte
invariant-loop-byte l = (parent l.left ≡ parent l.fn.path) × (length l.left ≤ length l.fn.path)
