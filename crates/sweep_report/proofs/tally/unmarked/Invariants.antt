use Rattle.std.proofs.Common.{◌≡◌, ◌++◌, length}
use Rattle.sweep_report.specs.Tallies.{unmarked}
use Rattle.sweep_report.proofs.tally.unmarked.Given as goal

abbrev pub invariant-loop-row : goal.invariant-loop-row
invariant-loop-row l = l.verdicts.items ++ unmarked l.more l.left ≡ unmarked l.marks l.rows

abbrev pub decreases-loop-row : goal.decreases-loop-row
decreases-loop-row l = length l.left
