use Rattle.std.proofs.Common.{◌≡◌, ◌++◌, length, map}
use Rattle.std.specs.List.{filter}
use Rattle.turn_orders.specs.Switches.{might, switch_to}
use Rattle.turn_orders.proofs.switches.add_switches.Given as goal

abbrev pub invariant-loop-other : goal.invariant-loop-other
invariant-loop-other l =
    l.switches.items ++ map (switch_to l.steps) (filter (might l.pid l.later) l.left)
    ≡ l.initial.switches.items ++ map (switch_to l.steps) (filter (might l.pid l.later) l.born)

abbrev pub decreases-loop-other : goal.decreases-loop-other
decreases-loop-other l = length l.left
