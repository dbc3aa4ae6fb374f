use Rattle.std.proofs.Common.{◌≡◌, ◌++◌, length}
use Rattle.sweep_runs.specs.Cases.{all_at}
use Rattle.sweep_runs.proofs.chosen.add_all.Given as goal

abbrev pub invariant-loop-one : goal.invariant-loop-one
invariant-loop-one l = l.cases.items ++ all_at l.left l.occurrence ≡ l.initial.cases.items ++ all_at l.wanted l.occurrence

abbrev pub decreases-loop-one : goal.decreases-loop-one
decreases-loop-one l = length l.left
