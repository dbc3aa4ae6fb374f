use Rattle.eager_runs.proofs.Leaving.{replays_leave}
use Rattle.eager_runs.proofs.laws.replays_leave_the_same.Goals as goal

pub returns : goal.returns
returns g c = replays_leave c.boots_are_first_runs.ensures.runs c.linux_is_a_machine.ensures c.linux_is_told.ensures c.texts_are_whole.ensures c.replays_go_on.ensures _
