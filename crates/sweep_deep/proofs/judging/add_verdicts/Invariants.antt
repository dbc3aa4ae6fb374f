use Rattle.std.proofs.Common.{◌≡◌, ◌++◌, length}
use Rattle.sweep_deep.specs.Counts.{verdicts_in}
use Rattle.sweep_deep.proofs.judging.add_verdicts.Given as goal

abbrev pub invariant-loop-row : goal.invariant-loop-row
invariant-loop-row l = l.verdicts.items ++ verdicts_in l.left ≡ l.initial.verdicts.items ++ verdicts_in l.rows

abbrev pub decreases-loop-row : goal.decreases-loop-row
decreases-loop-row l = length l.left
