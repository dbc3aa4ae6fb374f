use Rattle.eager_runs.proofs.Spent.{eager_traces}
use Rattle.eager_runs.proofs.laws.eager_traces_are_plain.Goals as goal

pub returns : goal.returns
returns c = eager_traces c.eager_turns_are_plain.ensures c.texts_are_whole.ensures c.renderings_grow.ensures
