use Rattle.std.proofs.Common.{◌≡◌, length}
use Rattle.lx_boot.specs.Neighbours.{precedes}
use Rattle.lx_boot.proofs.neighbours.precedes.Given as goal

abbrev pub invariant-loop-a : goal.invariant-loop-a
invariant-loop-a l = precedes l.twice l.path l.other ≡ precedes l.twice l.left l.right

abbrev pub decreases-loop-a : goal.decreases-loop-a
decreases-loop-a l = length l.left
