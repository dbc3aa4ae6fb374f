use Rattle.std.proofs.Common.{◌≡◌, ◌++◌, length}
use Rattle.sweep_runs.specs.Cases.{cases_at}
use Rattle.sweep_runs.proofs.chosen.add_errors.Given as goal

abbrev pub invariant-loop-error : goal.invariant-loop-error
invariant-loop-error l = l.cases.items ++ cases_at l.occurrence l.left ≡ l.initial.cases.items ++ cases_at l.occurrence l.errors

abbrev pub decreases-loop-error : goal.decreases-loop-error
decreases-loop-error l = length l.left
