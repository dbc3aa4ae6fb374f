use Rattle.std.proofs.Common.{◌≡◌, ◌++◌, map, All, length}
use Rattle.sweep_runs.specs.Leaders.{IsLed}
use Rattle.sweep_runs.specs.Rows.{IsRow}
use Rattle.sweep_runs.proofs.sweeping.run_led_cases.Given as goal

abbrev pub invariant-loop-case : goal.invariant-loop-case
invariant-loop-case g l =
    (map (λ r. r.case) l.rows.items ++ l.left ≡ l.cases) × All (IsRow l.setup l.reference) l.rows.items
    × IsLed l.setup l.reference l.leader

abbrev pub decreases-loop-case : goal.decreases-loop-case
decreases-loop-case g l = length l.left
