use Rattle.eager_runs.proofs.Shown.{rows_shown}
use Rattle.eager_runs.proofs.laws.rows_are_shown.Goals as goal

pub returns : goal.returns
returns c = rows_shown c.eager_runs_are_plain.ensures c.stuck_runs_are_plain.ensures
