use Rattle.lx_model.proofs.Halts.{the_stopped_stay, continued_in_time}
use Rattle.lx_model.proofs.laws.the_stopped_stay.Goals as goal

pub returns-clause-stays : goal.returns-clause-stays
returns-clause-stays g c = the_stopped_stay

pub returns-clause-in_time : goal.returns-clause-in_time
returns-clause-in_time g c = continued_in_time
