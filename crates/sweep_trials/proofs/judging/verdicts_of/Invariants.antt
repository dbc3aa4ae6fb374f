use Rattle.std.proofs.Common.{◌≡◌, ◌++◌, length}
use Rattle.sweep_trials.specs.Counts.{verdicts_of}
use Rattle.sweep_trials.proofs.judging.verdicts_of.Given as goal

abbrev pub invariant-loop-row : goal.invariant-loop-row
invariant-loop-row l = l.verdicts.items ++ verdicts_of l.left ≡ verdicts_of l.rows

abbrev pub decreases-loop-row : goal.decreases-loop-row
decreases-loop-row l = length l.left
