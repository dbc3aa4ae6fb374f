use Rattle.std.proofs.Common.{◌≡◌, ◌-◌, ◌<◌, replicate}
use Rattle.pt_kernel.specs.Noted.{events_in}
use Rattle.pt_schedule.specs.Written.{IsNumbered, event_word}
use Rattle.trace_command.specs.TurnsOut.{left_behind, text_behind}
use Rattle.trace_command.proofs.Turned.{Writes}
use Rattle.trace_command.proofs.turns_out.write_row.Given as goal

abbrev pub invariant-loop : goal.invariant-loop
invariant-loop g l =
    (left_behind l.rest (replicate (l.row.times - l.counter) l.row.event) ≡ left_behind l.left (events_in l.row))
    × Writes (g.W.Write.contents l.fn.writer) (g.W.Write.contents l.writer) (text_behind l.left (events_in l.row))
    (text_behind l.rest (replicate (l.row.times - l.counter) l.row.event))
    × (0 < l.counter → IsNumbered (event_word l.row.event))
