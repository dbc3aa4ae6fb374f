use Rattle.std.proofs.Common.{length}
use Rattle.lx_files.specs.Folders.{Children}
use Rattle.lx_files.specs.Ways.{AreKnown}
use Rattle.lx_files.proofs.cache.folder_of.Given as goal

abbrev pub invariant-loop-known : goal.invariant-loop-known
invariant-loop-known l = (children : Children) → AreKnown children l.entered → AreKnown children l.left

abbrev pub decreases-loop-known : goal.decreases-loop-known
decreases-loop-known l = length l.left
