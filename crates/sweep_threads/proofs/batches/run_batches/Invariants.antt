use Rattle.std.proofs.Common.{◌≡◌, ◌++◌, List, length}
use Rattle.sweep_runs.specs.Rows.{AreRows}
use Rattle.sweep_rows.specs.declared.wanted.Case.{Case}
use Rattle.sweep_threads.proofs.batches.run_batches.Given as goal

abbrev pub invariant-loop-left : goal.invariant-loop-left
invariant-loop-left g l = (done : List Case) × (done ++ l.left ≡ l.cases) × AreRows l.setup l.reference done l.rows.items

abbrev pub decreases-loop-left : goal.decreases-loop-left
decreases-loop-left g l = length l.left
