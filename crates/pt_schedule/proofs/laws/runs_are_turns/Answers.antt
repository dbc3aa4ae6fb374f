use Rattle.pt_schedule.proofs.Rowing.{runs_are_turns}
use Rattle.pt_schedule.proofs.laws.runs_are_turns.Goals as goal

pub returns : goal.returns
returns c = runs_are_turns
