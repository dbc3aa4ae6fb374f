use Rattle.std.proofs.Common.{◌≡◌, ◌++◌, map, length}
use Rattle.sweep_runs.specs.Rows.{fault_of}
use Rattle.sweep_command.proofs.rows.by_the_end.Given as goal

abbrev pub invariant-loop-case : goal.invariant-loop-case
invariant-loop-case l = map fault_of l.all.items ++ map fault_of l.left ≡ map fault_of l.cases

abbrev pub decreases-loop-case : goal.decreases-loop-case
decreases-loop-case l = length l.left
