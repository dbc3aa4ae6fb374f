use Rattle.lx_laws.proofs.Holders.{nothing_is_left_open}
use Rattle.lx_laws.proofs.laws.nothing_is_left_open.Goals as goal

pub returns : goal.returns
returns c = nothing_is_left_open
