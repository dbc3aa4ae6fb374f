use Rattle.std.proofs.Common.{ap, ◌∙◌}
use Rattle.lx_model.specs.Machine.{with_a7}
use Rattle.tr_core.proofs.hearing.hear_exit.Goals as goal

pub returns-in-Some : goal.returns-in-Some
returns-in-Some c =
    let t = c.args.tracee.now in
    let registers = c.set_number.ensures ∙ ap (λ r. with_a7 r t.called.number) c.set_result.ensures in
    rw (c.in-Some.is, ← registers) (rw c.in-Some.is at (c.asks.ensures c.args.session.now c.args.pid t tt))
