use Rattle.std.proofs.Common.{◌≡◌, ◌-◌}
use Rattle.elf_symbols.specs.Named.{named_from}
use Rattle.elf_symbols.proofs.named.named_from.Given as goal

abbrev pub invariant-loop : goal.invariant-loop
invariant-loop l = named_from l.name l.bytes l.names l.at (l.count - l.counter) ≡ named_from l.name l.bytes l.names l.start l.count
