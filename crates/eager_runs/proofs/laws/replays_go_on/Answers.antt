use Rattle.eager_runs.proofs.GoingOn.{replays}
use Rattle.eager_runs.proofs.laws.replays_go_on.Goals as goal

pub returns : goal.returns
returns c = replays c.eager_runs_are_plain.ensures c.turns_give_themselves.ensures
