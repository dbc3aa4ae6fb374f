use Rattle.std.proofs.Common.{◌≡◌, ◌-◌}
use Rattle.elf_lines.specs.Files.{pools, shape, entry_behind}
use Rattle.elf_lines.proofs.files.entry_behind.Given as goal

abbrev pub invariant-loop : goal.invariant-loop
invariant-loop l =
    entry_behind l.counted (pools l.strings) (shape l.format) (l.count - l.counter) l.left
    ≡ entry_behind l.counted (pools l.strings) (shape l.format) l.count l.bytes
