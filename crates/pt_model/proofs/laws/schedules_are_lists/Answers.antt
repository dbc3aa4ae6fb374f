use Rattle.pt_model.proofs.Owned.{schedules_are_lists}
use Rattle.pt_model.proofs.laws.schedules_are_lists.Goals as goal

pub returns : goal.returns
returns g c = λ choose. schedules_are_lists choose
