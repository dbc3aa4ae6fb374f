use Rattle.std.proofs.Common.{◌≡◌, ◌≤◌, ◌^◌, drop}
use Rattle.rv_syntax.specs.Numbers.{digits}
use Rattle.rv_syntax.proofs.numbers.digits_value.Given as goal

abbrev pub invariant-loop-byte : goal.invariant-loop-byte
invariant-loop-byte l = record {
  so_far : digits l.base l.number (drop l.byte-index l.text) ≡ digits l.base 0 l.text;
  small : l.number ≤ 2 ^ 64;
}
