use Rattle.std.proofs.Common.{◌≡◌, ◌++◌, length}
use Rattle.std.specs.List.{flat_map, slice_get}
use Rattle.std.specs.Option.{option_to_list}
use Rattle.turn_orders.specs.Places.{spread}
use Rattle.turn_orders.proofs.switches.spread_out.Given as goal

abbrev pub invariant-loop-place : goal.invariant-loop-place
invariant-loop-place l =
    l.far.items ++ flat_map (λ i. option_to_list (slice_get l.switches i)) l.left
    ≡ flat_map (λ i. option_to_list (slice_get l.switches i)) (spread (length l.switches))

abbrev pub decreases-loop-place : goal.decreases-loop-place
decreases-loop-place l = length l.left
