use Rattle.std.proofs.Common.{ap, ◌∙◌}
use Rattle.lx_proc.specs.State.{with_signals}
use Rattle.lx_proc.specs.Sending.{receives}
use Rattle.lx_proc.proofs.Tables.{changed_alike}
use Rattle.lx_proc.proofs.sending.send.Goals as goal

pub returns : goal.returns
returns c =
    let e = c.in-Some.entry.now in
    c.set_signals.ensures
    ∙ changed_alike c.args.entries.now c.args.pid (λ e. with_signals e c.make_pending.new.signals) (λ e. receives e c.args.signal c.args.cause) e c.in-Some.ensures
    (ap (with_signals e) c.make_pending.ensures)
