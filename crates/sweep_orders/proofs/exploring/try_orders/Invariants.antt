use Rattle.std.proofs.Common.{◌≤◌, ◌-◌}
use Rattle.sweep_orders.specs.Found.{none_told}
use Rattle.sweep_orders.specs.Orders.{Explores, told_of}
use Rattle.sweep_orders.proofs.exploring.try_orders.Given as goal

abbrev pub invariant-loop-made : goal.invariant-loop-made
invariant-loop-made g l = (l.made ≤ l.orders) × Explores l.setup l.source 0 l.made none_told (told_of l.results)

abbrev pub decreases-loop-made : goal.decreases-loop-made
decreases-loop-made g l = l.orders - l.made
