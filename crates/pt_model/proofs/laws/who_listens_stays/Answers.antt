use Rattle.pt_model.proofs.Halts.{who_listens_stays}
use Rattle.pt_model.proofs.laws.who_listens_stays.Goals as goal

pub returns : goal.returns
returns g c = who_listens_stays
