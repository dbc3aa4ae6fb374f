use Rattle.std.proofs.Common.{◌≡◌, ◌++◌, length}
use Rattle.sweep_deep.specs.Counts.{verdicts_of}
use Rattle.sweep_deep.proofs.judging.verdicts_of.Given as goal

abbrev pub invariant-loop-behind : goal.invariant-loop-behind
invariant-loop-behind l = l.verdicts.items ++ verdicts_of l.left ≡ verdicts_of l.all

abbrev pub decreases-loop-behind : goal.decreases-loop-behind
decreases-loop-behind l = length l.left
