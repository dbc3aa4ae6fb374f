use Rattle.trace_command.proofs.Noted.{on_ok_more}
use Rattle.trace_command.proofs.kernel.run_here.Goals as goal

pub returns-in-Ok-clause-notes : goal.returns-in-Ok-clause-notes
returns-in-Ok-clause-notes g c =
    on_ok_more c.in-Ok.field-0.ended (λ leaves events h. (leaves events h).noted_are) c.in-Ok.ensures.left
