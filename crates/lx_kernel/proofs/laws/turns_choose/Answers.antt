use Rattle.lx_kernel.proofs.Choices.{turns_choose}
use Rattle.lx_kernel.proofs.laws.turns_choose.Goals as goal

pub returns : goal.returns
returns c = turns_choose
