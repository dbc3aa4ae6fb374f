use Rattle.lx_kernel.proofs.Few.{turn_few}
use Rattle.lx_kernel.proofs.laws.few_turns_wake_few.Goals as goal

pub returns : goal.returns
returns c = turn_few
