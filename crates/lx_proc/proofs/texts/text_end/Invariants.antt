use Rattle.std.proofs.Common.{◌≡◌, ◌+◌, ◌%◌}
use Rattle.lx_proc.proofs.Pointers.{Passed}
use Rattle.lx_proc.proofs.texts.text_end.Given as goal

abbrev pub invariant-loop : goal.invariant-loop
invariant-loop l = record {
  kept : l.memory ≡ l.fn.memory;
  place : l.at ≡ (l.address + l.counter) % 18446744073709551616;
  passed : Passed l.fn.memory l.address l.counter l.at;
}
