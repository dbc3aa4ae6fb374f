use Rattle.std.proofs.Common.{◌≡◌, length}
use Rattle.turn_orders.specs.Steps.{no_steps, steps_after}
use Rattle.turn_orders.proofs.steps.steps_of.Given as goal

abbrev pub invariant-loop-item : goal.invariant-loop-item
invariant-loop-item l = steps_after l.steps l.left ≡ steps_after no_steps l.log

abbrev pub decreases-loop-item : goal.decreases-loop-item
decreases-loop-item l = length l.left
