use Rattle.pt_kernel.proofs.Alike.{runs_leave_alike}
use Rattle.pt_kernel.proofs.laws.runs_leave_alike.Goals as goal

pub returns : goal.returns
returns c = runs_leave_alike
