-- A signal is read back from its number.
use Rattle.std.proofs.Common.{◌≡◌, Option, Some, None, option_map, refl}
use Rattle.std.specs.Option.{option_and_then}
use Rattle.lx_abi.specs.Signals.{signal_numbered}
use Rattle.lx_abi.specs.declared.signal.Signal.{Signal}
use Rattle.lx_abi.proofs.SignalNumbers.{in_range}

pub read_back : (o : Option Signal) → o ≡ option_and_then signal_numbered (option_map (λ s. s.number) o)
read_back None = refl
read_back (Some s) = in_range s.number s.in_range
