use Rattle.std.proofs.Common.{drop, take}
use Rattle.pt_kernel.specs.Noted.{all_events}
use Rattle.trace_command.specs.TurnsOut.{AreNumbered, text_behind, turns_text}
use Rattle.trace_command.proofs.Turned.{Writes}
use Rattle.trace_command.proofs.turns_out.write_rows.Given as goal

abbrev pub invariant-loop-row : goal.invariant-loop-row
invariant-loop-row g l =
    Writes (g.W.Write.contents l.fn.writer) (g.W.Write.contents l.writer) (turns_text (all_events l.rows))
    (text_behind l.left (all_events (drop l.row-index l.rows)))
    × AreNumbered (all_events (take l.row-index l.rows))
