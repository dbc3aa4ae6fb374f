use Rattle.std.proofs.Common.{◌≡◌, ◌+◌, length}
use Rattle.sweep_command.proofs.orders.broken_of.Given as goal

abbrev pub invariant-loop-one : goal.invariant-loop-one
invariant-loop-one g l = length l.broken.items + length l.left ≡ length l.found

abbrev pub decreases-loop-one : goal.decreases-loop-one
decreases-loop-one g l = length l.left
