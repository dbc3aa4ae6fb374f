use Rattle.std.proofs.Common.{◌++◌, Bool, List, length}
use Rattle.sweep_command.specs.Reports.{AreMarks}
use Rattle.sweep_command.proofs.knowing.each_mark.Given as goal

-- marks of the rows that are left are the last of all
abbrev pub invariant-loop-row : goal.invariant-loop-row
invariant-loop-row l = (ms : List Bool) → AreMarks l.plan.strict l.plan.known.items l.left ms
    → AreMarks l.plan.strict l.plan.known.items l.rows (l.marks.items ++ ms)

abbrev pub decreases-loop-row : goal.decreases-loop-row
decreases-loop-row l = length l.left
