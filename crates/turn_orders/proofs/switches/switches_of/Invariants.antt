use Rattle.std.proofs.Common.{◌≡◌, ◌++◌, length}
use Rattle.turn_orders.specs.Steps.{no_steps}
use Rattle.turn_orders.specs.Switches.{switches_in}
use Rattle.turn_orders.proofs.switches.switches_of.Given as goal

abbrev pub invariant-loop-item : goal.invariant-loop-item
invariant-loop-item l = l.switches.items ++ switches_in l.steps l.left ≡ switches_in no_steps l.log

abbrev pub decreases-loop-item : goal.decreases-loop-item
decreases-loop-item l = length l.left
