use Rattle.std.proofs.Common.{◌≡◌, ◌+◌, ◌++◌, map}
use Rattle.turn_orders.specs.Novelty.{rounds_from}
use Rattle.turn_orders.proofs.novelty.rounds.Given as goal

abbrev pub invariant-loop-left : goal.invariant-loop-left
invariant-loop-left l =
    (l.places.items ++ rounds_from (map (λ b. b.places.items) l.blocks) l.number l.left
    ≡ rounds_from (map (λ b. b.places.items) l.blocks) 0 l.count) × (l.number + l.left ≡ l.count)

abbrev pub decreases-loop-left : goal.decreases-loop-left
decreases-loop-left l = l.left
