use Rattle.plain_trace.proofs.Showing.{traced_run}
use Rattle.plain_trace.proofs.running.run.Goals as goal

pub returns-in_ok-bytes-in-Ok : goal.returns-in_ok-bytes-in-Ok
returns-in_ok-bytes-in-Ok c =
    traced_run c.printer_writes_the_rendering.ensures c.args.options c.new-trace.result c.run.new.watch c.args.kernel.now c.args.schedule.now
    c.run.new.kernel c.in_ok-bytes-in-Ok.bytes c.new-trace.ensures.options c.new-trace.ensures.begins (c.in-Ok.ensures.noted c.new-trace.result)
    c.in_ok-bytes-in-Ok.ensures.0 c.in_ok-bytes-in-Ok.ensures.1
