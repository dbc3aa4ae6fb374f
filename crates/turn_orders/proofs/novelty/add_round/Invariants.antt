use Rattle.std.proofs.Common.{◌≡◌, ◌++◌, length, map}
use Rattle.turn_orders.specs.Novelty.{round}
use Rattle.turn_orders.proofs.novelty.add_round.Given as goal

abbrev pub invariant-loop-block : goal.invariant-loop-block
invariant-loop-block l =
    l.places.items ++ round (map (λ b. b.places.items) l.left) l.number
    ≡ l.initial.places.items ++ round (map (λ b. b.places.items) l.blocks) l.number

abbrev pub decreases-loop-block : goal.decreases-loop-block
decreases-loop-block l = length l.left
