use Rattle.lx_kernel.proofs.Stopping.{turn_leaves}
use Rattle.lx_kernel.proofs.laws.turns_leave_stopped.Goals as goal

pub returns : goal.returns
returns c = turn_leaves
