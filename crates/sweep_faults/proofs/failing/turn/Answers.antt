use Rattle.sweep_faults.proofs.Rows.{turned_log}
use Rattle.sweep_faults.proofs.failing.turn.Goals as goal

pub returns-in-Ok-clause-logged : goal.returns-in-Ok-clause-logged
returns-in-Ok-clause-logged c =
    turned_log c.args.kernel.now c.turn.new.self c.args.pid c.in-Ok.moved.item c.in-Ok.ensures.turned c.in-Ok.ensures.item
