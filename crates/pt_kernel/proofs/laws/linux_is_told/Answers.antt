use Rattle.pt_kernel.proofs.LinuxTold.{linux_told}
use Rattle.pt_kernel.proofs.laws.linux_is_told.Goals as goal

pub returns : goal.returns
returns c = linux_told c.calls_fit.ensures.calls c.calls_fit.ensures.signals
