use Rattle.lx_kernel.proofs.Calming.{turn_calm}
use Rattle.lx_kernel.proofs.laws.calm_turns_wake_nobody.Goals as goal

pub returns : goal.returns
returns c = turn_calm
