use Rattle.std.proofs.Common.{◌≤◌, ◌-◌, length}
use Rattle.sweep_command.proofs.rows.first_finding.Given as goal

abbrev pub invariant-loop-count : goal.invariant-loop-count
invariant-loop-count l = l.count ≤ length l.rows

abbrev pub decreases-loop-count : goal.decreases-loop-count
decreases-loop-count l = length l.rows - l.count
