use Rattle.std.proofs.Common.{◌≡◌, ◌++◌, map, All, length}
use Rattle.sweep_runs.specs.Leaders.{IsLed}
use Rattle.sweep_trials.specs.Rows.{IsTriedRow}
use Rattle.sweep_trials.proofs.rows.run_led_each.Given as goal

abbrev pub invariant-loop-trial : goal.invariant-loop-trial
invariant-loop-trial l =
    (map (λ r. r.made.trial) l.rows.items ++ l.left ≡ l.trials) × All (IsTriedRow l.plan l.reference) l.rows.items
    × IsLed l.plan.setup l.reference l.leader

abbrev pub decreases-loop-trial : goal.decreases-loop-trial
decreases-loop-trial l = length l.left
