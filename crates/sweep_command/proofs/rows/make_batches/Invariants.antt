use Rattle.std.proofs.Common.{◌≡◌, ◌++◌, List, length, true, false}
use Rattle.std.specs.Prelude.{◌&&◌}
use Rattle.sweep_rows.specs.declared.wanted.Case.{Case}
use Rattle.sweep_runs.specs.Leaders.{IsLed}
use Rattle.sweep_command.specs.Checks.{AreTold}
use Rattle.sweep_command.specs.Reports.{ends_found}
use Rattle.sweep_command.proofs.rows.make_batches.Given as goal

abbrev pub invariant-loop-left : goal.invariant-loop-left
invariant-loop-left g l =
    (done : List Case) × (done ++ l.left ≡ l.cases) × AreTold l.words.is_checked l.plan.setup l.reference done l.rows.items
    × (l.ended ≡ true → (l.words.fail_fast && ends_found l.plan.strict false l.rows.items) ≡ true)
    × IsLed l.plan.setup l.reference l.leader

abbrev pub decreases-loop-left : goal.decreases-loop-left
decreases-loop-left g l = length l.left
