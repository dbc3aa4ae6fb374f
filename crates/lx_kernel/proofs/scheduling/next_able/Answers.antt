use Rattle.std.proofs.Common.{sym, ◌∙◌, arith}
use Rattle.lx_kernel.proofs.NextAble.{unable_before, unable_upto, unable_all}
use Rattle.lx_kernel.proofs.scheduling.next_able.Goals as goal

pub returns-then-can_turn_at : goal.returns-then-can_turn_at
returns-then-can_turn_at g c =
    let low = c.loop-pid.invariant.low in
    let up = c.in-Some.ensures.0 in (
      omega (arith, low, up),
      sym c.can_turn_at.ensures ∙ c.if-can_turn_at.true,
      unable_before c.args.keys.now c.args.shared.now c.args.tasks.now c.requires c.args.after c.loop-pid.passed low c.loop-pid.invariant.unable c.in-Some.pid c.in-Some.ensures,
    )

pub loop-pid-preserved : goal.loop-pid-preserved
loop-pid-preserved g c =
    let low = c.loop-pid.invariant.low in
    let up = c.in-Some.ensures.0 in
    record {
      low = omega (arith, low, up);
      unable = unable_upto c.args.keys.now c.args.shared.now c.args.tasks.now c.requires c.args.after c.loop-pid.passed low c.loop-pid.invariant.unable c.in-Some.pid c.in-Some.ensures (sym c.can_turn_at.ensures ∙ c.if-can_turn_at.false);
    }

pub returns : goal.returns
returns g c = unable_all c.args.keys.now c.args.shared.now c.args.tasks.now c.requires c.args.after c.loop-pid.passed c.loop-pid.invariant.low c.loop-pid.invariant.unable c.in_default.ensures
