use Rattle.plain_run.proofs.Turning.{leads_log}
use Rattle.sweep_faults.proofs.moving.go_on.Goals as goal

pub returns-in-Ok-clause-logged : goal.returns-in-Ok-clause-logged
returns-in-Ok-clause-logged c =
    leads_log c.in-Ok.advanced.turns c.args.kernel.now c.advance.new.self c.args.pid c.advance.new.item c.in-Ok.advanced.event c.in-Ok.ensures.leads
