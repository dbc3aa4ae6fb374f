use Rattle.std.proofs.Common.{ap, ◌∙◌}
use Rattle.lx_proc.specs.State.{with_signals}
use Rattle.lx_proc.proofs.Tables.{changed_alike}
use Rattle.lx_sig.specs.Reactions.{after_exec}
use Rattle.lx_exec.proofs.execve.reset_handlers.Goals as goal

pub returns : goal.returns
returns c =
    let e = c.in-Some.entry.now in
    c.set_signals.ensures
    ∙ changed_alike c.args.entries.now c.args.pid (λ e. with_signals e c.reset_for_exec.new.signals) (λ e. with_signals e (after_exec e.signals)) e c.in-Some.ensures (ap (with_signals e) c.reset_for_exec.ensures)
