use Rattle.std.proofs.Common.{codes, sym, ◌∙◌}
use Rattle.trace_command.specs.Tracing.{value_of}
use Rattle.trace_command.proofs.Noted.{one_again}
use Rattle.trace_command.proofs.prepared.second.Goals as goal

pub returns-in-Ok : goal.returns-in-Ok
returns-in-Ok c =
    one_again c.args.options.workers (value_of c.args.matches.now (codes "host")) c.args.plan.now c.in-Ok.again
    c.args.asked.events c.args.asked.waits (sym c.needs_second.ensures ∙ c.if-not-needs_second.false)
    c.in-Ok.ensures
