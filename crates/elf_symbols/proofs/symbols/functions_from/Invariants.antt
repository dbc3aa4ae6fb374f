use Rattle.std.proofs.Common.{◌≡◌, ◌+◌, ◌-◌, ◌*◌, ◌++◌}
use Rattle.elf_symbols.specs.Symbols.{functions_from}
use Rattle.elf_symbols.proofs.symbols.functions_from.Given as goal

abbrev pub invariant-loop : goal.invariant-loop
invariant-loop l = record {
  place : l.next ≡ l.at + 24 * l.counter;
  so_far : l.found.items ++ functions_from l.bytes l.names l.next (l.count - l.counter) ≡ functions_from l.bytes l.names l.at l.count;
}
