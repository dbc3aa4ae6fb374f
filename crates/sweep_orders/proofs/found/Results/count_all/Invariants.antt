use Rattle.std.proofs.Common.{length}
use Rattle.sweep_orders.specs.Found.{Told, CountsAll}
use Rattle.sweep_orders.specs.Orders.{told_of}
use Rattle.sweep_orders.proofs.found.Results.count_all.Given as goal

abbrev pub invariant-loop-trial : goal.invariant-loop-trial
invariant-loop-trial l =
    (z : Told) → CountsAll l.trials.items (told_of l.self) z → CountsAll l.initial.trials.items (told_of l.initial.self) z

abbrev pub decreases-loop-trial : goal.decreases-loop-trial
decreases-loop-trial l = length l.trials.items
