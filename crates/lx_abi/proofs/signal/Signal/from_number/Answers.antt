use Rattle.std.proofs.Common.{arith}
use Rattle.std.proofs.lemmas.Bool.Decides.{nat_tests}
use Rattle.lx_abi.proofs.SignalNumbers.{in_range, outside}
use Rattle.lx_abi.proofs.signal.Signal.from_number.Goals as goal

pub returns-then-number-eq0 : goal.returns-then-number-eq0
returns-then-number-eq0 c = outside c.args.number (grind (arith, nat_tests))

pub returns : goal.returns
returns c = in_range c.args.number _
