use Rattle.pt_kernel.proofs.Leaving.{boots_leave}
use Rattle.pt_kernel.proofs.laws.boots_leave_as_plain.Goals as goal

pub returns : goal.returns
returns c = boots_leave c.linux_is_transparent.ensures c.words_are_logged.ensures.kernels
