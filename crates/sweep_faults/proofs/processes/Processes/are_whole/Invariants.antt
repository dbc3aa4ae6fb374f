use Rattle.std.proofs.Common.{◌≡◌, length}
use Rattle.sweep_rows.specs.Likeness.{are_whole}
use Rattle.sweep_faults.specs.Processes.{likeness_in}
use Rattle.sweep_faults.proofs.processes.Processes.are_whole.Given as goal

abbrev pub invariant-loop-one : goal.invariant-loop-one
invariant-loop-one l = are_whole l.calls (likeness_in l.self) l.left ≡ are_whole l.calls (likeness_in l.self) l.ended

abbrev pub decreases-loop-one : goal.decreases-loop-one
decreases-loop-one l = length l.left
