use Rattle.std.proofs.Common.{option_map, ap}
use Rattle.lx_abi.specs.Signals.{signals, signal_name}
use Rattle.lx_abi.proofs.signal.Signal.name.Goals as goal

pub returns : goal.returns
unfolding signal_name signals
returns c = ap (λ o. option_map (λ r. r.1) o) c.row_numbered.ensures
