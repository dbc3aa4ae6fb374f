use Rattle.std.proofs.Common.{◌≡◌, ◌<◌, ◌^◌, drop}
use Rattle.lx_abi.specs.Words.{spelled}
use Rattle.lx_abi.proofs.words.process.Given as goal

abbrev pub invariant-loop-digit : goal.invariant-loop-digit
invariant-loop-digit l = record {
  same : spelled 0 l.digits ≡ spelled l.number (drop l.digit-index l.digits);
  small : l.number < 10 ^ l.digit-index;
}
