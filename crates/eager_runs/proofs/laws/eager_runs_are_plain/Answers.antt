use Rattle.eager_runs.proofs.Whole.{eager_runs}
use Rattle.eager_runs.proofs.laws.eager_runs_are_plain.Goals as goal

pub returns : goal.returns
returns c = eager_runs c.boots_are_first_runs.ensures.runs c.ends_are_settled.ensures.turns c.eager_turns_are_plain.ensures c.texts_are_whole.ensures c.renderings_grow.ensures
