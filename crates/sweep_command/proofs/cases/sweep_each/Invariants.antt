use Rattle.std.proofs.Common.{◌++◌, ℕ, List, length}
use Rattle.sweep_command.specs.Reports.{AreOfSweeps}
use Rattle.sweep_command.proofs.cases.sweep_each.Given as goal

-- statuses of the cases that are left are the last of all
abbrev pub invariant-loop-case : goal.invariant-loop-case
invariant-loop-case g l = (ss : List ℕ) → AreOfSweeps l.left ss → AreOfSweeps l.cases (l.statuses.items ++ ss)

abbrev pub decreases-loop-case : goal.decreases-loop-case
decreases-loop-case g l = length l.left
