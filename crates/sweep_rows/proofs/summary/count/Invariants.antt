use Rattle.std.proofs.Common.{◌≡◌, ◌+◌, ◌≤◌, length}
use Rattle.sweep_rows.specs.Summary.{count}
use Rattle.sweep_rows.proofs.summary.count.Given as goal

abbrev pub invariant-loop-one : goal.invariant-loop-one
invariant-loop-one l = (l.count + count l.verdict l.left ≡ count l.verdict l.verdicts) × (l.count + length l.left ≤ length l.verdicts)

abbrev pub decreases-loop-one : goal.decreases-loop-one
decreases-loop-one l = length l.left
