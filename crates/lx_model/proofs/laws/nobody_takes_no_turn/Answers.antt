use Rattle.lx_model.proofs.KernelLaws.{nobody_turns}
use Rattle.lx_model.proofs.laws.nobody_takes_no_turn.Goals as goal

pub returns : goal.returns
returns g c = λ m. nobody_turns m
