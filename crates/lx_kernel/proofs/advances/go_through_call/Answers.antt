use Rattle.std.proofs.Common.{refl}
use Rattle.lx_kernel.proofs.advances.go_through_call.Goals as goal

pub returns-clause-done : goal.returns-clause-done
returns-clause-done c = (c.in_ok-result.result, c.in_ok-result.ensures.done, refl, refl)
