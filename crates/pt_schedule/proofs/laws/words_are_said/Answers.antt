use Rattle.pt_schedule.proofs.Saying.{words_are_said}
use Rattle.pt_schedule.proofs.laws.words_are_said.Goals as goal

pub returns : goal.returns
returns c = words_are_said
