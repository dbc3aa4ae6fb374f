use Rattle.std.proofs.Common.{◌-◌, sym, ◌∙◌}
use Rattle.sweep_orders.proofs.Stepping.{some_left, step_ends, step_goes_on}
use Rattle.sweep_orders.proofs.draws.step.Goals as goal

pub returns-then-is_over : goal.returns-then-is_over
returns-then-is_over c =
    let l = c.turns in
    l.invariant.1 (l.left - c.in_ok-made.made) c.advance.new.kernel
    (step_ends l.left c.in_ok-made.made c.most_at_once.result l.kernel c.advance.new.kernel c.args.pid c.has_finished-finished.result c.has_finished-finished.ensures
    c.most_at_once.ensures.one c.in_ok-made.ensures.some c.in_ok-made.ensures.within c.most_at_once.ensures.within c.in_ok-made.ensures.row
    (sym c.is_over.ensures ∙ c.if-is_over.true))

pub turns-preserved : goal.turns-preserved
turns-preserved c =
    let l = c.turns in
    let over = sym c.is_over.ensures ∙ c.if-is_over.false in (
      some_left (l.left - c.in_ok-made.made) c.advance.new.kernel c.args.pid c.has_finished-finished.result over,
      λ after z s. l.invariant.1 after z
          (step_goes_on l.left c.in_ok-made.made c.most_at_once.result l.kernel c.advance.new.kernel c.args.pid c.has_finished-finished.result c.has_finished-finished.ensures
          c.most_at_once.ensures.one c.in_ok-made.ensures.some c.in_ok-made.ensures.within c.most_at_once.ensures.within c.in_ok-made.ensures.row
          over after z s),
    )
