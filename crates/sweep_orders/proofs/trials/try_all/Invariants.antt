use Rattle.std.proofs.Common.{◌≡◌, ◌+◌, ◌≤◌, ◌-◌, length}
use Rattle.sweep_orders.specs.Trials.{AreTrials}
use Rattle.sweep_orders.proofs.trials.try_all.Given as goal

abbrev pub invariant-loop-number : goal.invariant-loop-number
invariant-loop-number l =
    (l.number ≡ l.first + length l.trials.items) × (l.number ≤ l.end) × AreTrials l.setup l.source l.first l.trials.items

abbrev pub decreases-loop-number : goal.decreases-loop-number
decreases-loop-number l = l.end - l.number
