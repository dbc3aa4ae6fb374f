use Rattle.pt_schedule.proofs.TurnWords.{turns_themselves}
use Rattle.pt_schedule.proofs.laws.turns_give_themselves.Goals as goal

pub returns : goal.returns
returns c = turns_themselves
