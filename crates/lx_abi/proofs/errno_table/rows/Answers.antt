use Rattle.std.proofs.Common.{refl}
use Rattle.lx_abi.specs.Errors.{errors}
use Rattle.lx_abi.proofs.errno_table.rows.Goals as goal

pub returns : goal.returns
unfolding errors
returns c = refl
