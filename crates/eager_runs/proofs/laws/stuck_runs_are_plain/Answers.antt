use Rattle.eager_runs.proofs.Stuck.{stuck_runs}
use Rattle.eager_runs.proofs.laws.stuck_runs_are_plain.Goals as goal

pub returns : goal.returns
returns c = stuck_runs c.events_are_few.ensures.few c.boots_are_first_runs.ensures.runs c.ends_are_settled.ensures.turns c.eager_turns_are_plain.ensures c.texts_are_whole.ensures
