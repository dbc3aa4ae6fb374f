use Rattle.std.proofs.Common.{◌≡◌, ◌++◌, length}
use Rattle.std.specs.List.{flat_map}
use Rattle.turn_orders.specs.Novelty.{element, spread_over}
use Rattle.turn_orders.proofs.novelty.spread_over.Given as goal

abbrev pub invariant-loop-at : goal.invariant-loop-at
invariant-loop-at l = l.far.items ++ flat_map (element l.places) l.left ≡ spread_over l.places

abbrev pub decreases-loop-at : goal.decreases-loop-at
decreases-loop-at l = length l.left
