use Rattle.std.proofs.Common.{refl}
use Rattle.lx_abi.specs.Calls.{calls}
use Rattle.call_errors.specs.Errors.{call_errors}
use Rattle.call_errors.proofs.table.each_call_has_its_errors.Goals as goal

pub returns : goal.returns
unfolding call_errors calls
returns c = refl
