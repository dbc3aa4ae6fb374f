use Rattle.std.proofs.Common.{length}
use Rattle.lx_open.specs.Rows.{AreAlike}
use Rattle.lx_open.proofs.row.trim.Given as goal

abbrev pub invariant-loop-slots : goal.invariant-loop-slots
invariant-loop-slots l = AreAlike l.fn.slots.items l.slots.items

abbrev pub decreases-loop-slots : goal.decreases-loop-slots
decreases-loop-slots l = length l.slots.items
