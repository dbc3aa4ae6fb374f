use Rattle.std.proofs.Common.{ap, ◌∙◌}
use Rattle.lx_sig.specs.Pending.{without_pending}
use Rattle.lx_proc.specs.State.{with_entries, with_signals}
use Rattle.lx_proc.proofs.Tables.{changed_alike}
use Rattle.lx_turn.proofs.signals.take.Goals as goal

pub returns-clause-taken : goal.returns-clause-taken
returns-clause-taken c =
    let s = c.args.shared.now in
    let e = c.in-Some.entry.now in
    ap (with_entries s) (c.set_signals.ensures
    ∙ changed_alike s.entries c.args.pid (λ e. with_signals e c.take.new.signals) (λ e. with_signals e (without_pending e.signals c.args.signal)) e c.in-Some.ensures (ap (with_signals e) c.take.ensures.taken))
