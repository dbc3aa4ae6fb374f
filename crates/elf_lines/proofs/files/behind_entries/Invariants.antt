use Rattle.std.proofs.Common.{◌≡◌, ◌-◌}
use Rattle.elf_lines.specs.Files.{pools, shape, behind_entries}
use Rattle.elf_lines.proofs.files.behind_entries.Given as goal

abbrev pub invariant-loop : goal.invariant-loop
invariant-loop l =
    behind_entries (pools l.strings) (shape l.format) (l.count - l.counter) l.left
    ≡ behind_entries (pools l.strings) (shape l.format) l.count l.bytes
