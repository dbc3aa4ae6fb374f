use Rattle.std.proofs.Common.{◌≡◌, ◌+◌, ◌++◌, map}
use Rattle.turn_orders.specs.Novelty.{blocks_from}
use Rattle.turn_orders.proofs.novelty.blocks_of.Given as goal

abbrev pub invariant-loop-left : goal.invariant-loop-left
invariant-loop-left l =
    (map (λ b. b.places.items) l.blocks.items ++ blocks_from l.kinds l.kind l.left ≡ blocks_from l.kinds 0 l.count)
    × (l.kind + l.left ≡ l.count)

abbrev pub decreases-loop-left : goal.decreases-loop-left
decreases-loop-left l = l.left
