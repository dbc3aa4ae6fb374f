use Rattle.std.proofs.Common.{◌≡◌, ◌-◌}
use Rattle.elf_image.specs.Notes.{header_of, header_from}
use Rattle.elf_image.proofs.notes.header_of.Given as goal

abbrev pub invariant-loop : goal.invariant-loop
invariant-loop l = header_from l.kind l.bytes l.at (l.count - l.counter) ≡ header_of l.kind l.bytes
