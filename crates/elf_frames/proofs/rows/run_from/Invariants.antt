use Rattle.std.proofs.Common.{◌≡◌, ◌-◌, Some}
use Rattle.elf_frames.specs.Rows as spec
use Rattle.elf_frames.proofs.rows.run_from.Given as goal

abbrev pub invariant-loop : goal.invariant-loop
invariant-loop l =
    spec.run_from (l.count - l.counter) l.cie l.address l.bytes (Some l.run) ≡ spec.run_from l.count l.cie l.address l.bytes (Some l.fn.run)
