use Rattle.std.proofs.Common.{◌≡◌, length}
use Rattle.sweep_rows.specs.Descriptors.{use_in}
use Rattle.sweep_rows.proofs.descriptors.find.Given as goal

abbrev pub invariant-loop-one : goal.invariant-loop-one
invariant-loop-one l = use_in l.left l.number ≡ use_in l.held l.number

abbrev pub decreases-loop-one : goal.decreases-loop-one
decreases-loop-one l = length l.left
