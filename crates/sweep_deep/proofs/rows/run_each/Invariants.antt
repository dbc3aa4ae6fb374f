use Rattle.std.proofs.Common.{◌≡◌, ◌++◌, map, All, length}
use Rattle.sweep_deep.specs.Rows.{IsBehind}
use Rattle.sweep_deep.proofs.rows.run_each.Given as goal

abbrev pub invariant-loop-case : goal.invariant-loop-case
invariant-loop-case l =
    (map (λ b. b.first.case) l.all.items ++ l.left ≡ l.cases) × All (IsBehind l.plan l.reference l.wanted) l.all.items

abbrev pub decreases-loop-case : goal.decreases-loop-case
decreases-loop-case l = length l.left
