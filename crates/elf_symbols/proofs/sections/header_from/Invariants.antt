use Rattle.std.proofs.Common.{◌≡◌, ◌-◌}
use Rattle.elf_symbols.specs.Sections.{header_from}
use Rattle.elf_symbols.proofs.sections.header_from.Given as goal

abbrev pub invariant-loop : goal.invariant-loop
invariant-loop l = header_from l.bytes l.at (l.count - l.counter) ≡ header_from l.bytes l.start l.count
