use Rattle.std.proofs.Common.{◌≡◌, ◌-◌}
use Rattle.plain_trace.specs.Reading.{note_in, read_from}
use Rattle.plain_trace.proofs.reading.read.Given as goal

-- with the reads that are left it is given what it would be from the beginning
abbrev pub invariant-loop : goal.invariant-loop
invariant-loop l =
    read_from (note_in l.fn.kernel l.fn.pid) (96 - l.counter) l.decoder
    ≡ read_from (note_in l.fn.kernel l.fn.pid) 96 l.fn.decoder
