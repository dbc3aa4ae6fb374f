use Rattle.std.proofs.Common.{◌≡◌, ◌++◌, map, All, length}
use Rattle.sweep_runs.specs.Deep.{case_in}
use Rattle.sweep_deep.specs.Rows.{IsTriedDeep, pair}
use Rattle.sweep_deep.proofs.rows.run_seconds.Given as goal

abbrev pub invariant-loop-second : goal.invariant-loop-second
invariant-loop-second l =
    (map (λ r. case_in r.made) l.rows.items ++ map (pair l.first) l.left ≡ map (pair l.first) l.seconds)
    × All (IsTriedDeep l.plan l.reference) l.rows.items

abbrev pub decreases-loop-second : goal.decreases-loop-second
decreases-loop-second l = length l.left
