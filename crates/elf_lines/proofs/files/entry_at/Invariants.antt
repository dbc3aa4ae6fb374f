use Rattle.std.proofs.Common.{◌≡◌, ◌-◌}
use Rattle.elf_lines.specs.Files.{pools, place, empty, entry_from}
use Rattle.elf_lines.proofs.files.entry_at.Given as goal

abbrev pub invariant-loop : goal.invariant-loop
invariant-loop l =
    entry_from (pools l.strings) (l.format.count - l.counter) l.pairs (place l.entry) l.left
    ≡ entry_from (pools l.strings) l.format.count l.format.pairs.now empty l.bytes
