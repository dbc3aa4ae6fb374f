use Rattle.std.proofs.Common.{◌≡◌, ◌≤◌, ◌+◌, ◌++◌, length}
use Rattle.turn_orders.specs.Novelty.{places_from}
use Rattle.turn_orders.proofs.novelty.places_of.Given as goal

abbrev pub invariant-loop-one : goal.invariant-loop-one
invariant-loop-one l =
    (l.places.items ++ places_from l.here l.kind l.left ≡ places_from 0 l.kind l.kinds)
    × (l.here + length l.left ≤ length l.kinds)

abbrev pub decreases-loop-one : goal.decreases-loop-one
decreases-loop-one l = length l.left
