use Rattle.std.proofs.Common.{◌≡◌, ◌-◌, ◌++◌}
use Rattle.elf_frames.specs.Entries as spec
use Rattle.elf_frames.proofs.entries.fdes_from.Given as goal

abbrev pub invariant-loop : goal.invariant-loop
invariant-loop l =
    l.fdes.items ++ spec.fdes_from (l.count - l.counter) l.table l.bytes l.next
    ≡ spec.fdes_from l.count l.table l.bytes l.fn.first
