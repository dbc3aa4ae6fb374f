use Rattle.trace_run.proofs.Records.{runs_replay}
use Rattle.trace_run.proofs.laws.runs_replay.Goals as goal

pub returns : goal.returns
returns c = runs_replay c.events_are_few.ensures.lists
