use Rattle.sweep_faults.proofs.Rows.{choosing_log}
use Rattle.sweep_faults.proofs.failing.choose.Goals as goal

pub returns-in-Ok-clause-logged : goal.returns-in-Ok-clause-logged
returns-in-Ok-clause-logged c =
    choosing_log c.args.kernel.now c.turn_choosing.new.self c.args.pid c.args.choice c.in-Ok.moved.item c.in-Ok.ensures.turned c.in-Ok.ensures.item
