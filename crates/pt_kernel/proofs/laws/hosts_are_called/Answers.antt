use Rattle.pt_kernel.proofs.Called.{hosts_are_called}
use Rattle.pt_kernel.proofs.laws.hosts_are_called.Goals as goal

pub returns : goal.returns
returns c = hosts_are_called c.turns_tell.ensures.ready c.hosts_run_alike.ensures.event
