use Rattle.pt_model.proofs.Apart.{the_dead_have_ended}
use Rattle.pt_model.proofs.laws.the_dead_have_ended.Goals as goal

pub returns : goal.returns
returns g c = λ m. the_dead_have_ended m
