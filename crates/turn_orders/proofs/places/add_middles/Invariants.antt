use Rattle.std.proofs.Common.{◌≡◌, ◌++◌}
use Rattle.turn_orders.specs.Places.{middles}
use Rattle.turn_orders.proofs.places.add_middles.Given as goal

abbrev pub invariant-loop-left : goal.invariant-loop-left
invariant-loop-left l =
    l.places.items ++ middles l.left l.gaps.items ≡ l.initial.places.items ++ middles l.most l.initial.gaps.items

abbrev pub decreases-loop-left : goal.decreases-loop-left
decreases-loop-left l = l.left
