use Rattle.std.proofs.Common.{List, arith, ap, subst, sym, ◌∙◌}
use Rattle.turn_orders.specs.Plans.{plan_of}
use Rattle.turn_orders.specs.declared.plans.Plan.{Plan}
use Rattle.turn_orders.specs.declared.switches.Switch.{Switch}
use Rattle.sweep_orders.specs.Trials.{AreTrials, IsTrial}
use Rattle.sweep_orders.specs.declared.trials.Trial.{Trial}
use Rattle.sweep_orders.proofs.Joined.{one_made}
use Rattle.sweep_orders.proofs.trials.try_all.Goals as goal

pub loop-number-preserved : goal.loop-number-preserved
loop-number-preserved c =
    let setup = c.args.setup.now in
    let source = c.args.source.now in
    let l = c.loop-number in
    let many = l.invariant.0 in
    let more = c.loop-number-test.true in
    let len = c.in_ok-push.ensures.len in
    let plan = c.plan_of-plan.ensures ∙ ap (λ (ss : List Switch). plan_of ss l.number) c.as_slice.ensures.value in (
      omega (arith, many, len),
      omega (arith, more),
      subst (λ (ts : List Trial). AreTrials setup source c.args.first ts) (sym c.in_ok-push.ensures.items)
          (one_made setup source l.trials.items c.in_ok-trial.trial c.args.first l.number many l.invariant.2
          (subst (λ (p : Plan). IsTrial setup source p c.in_ok-trial.trial) plan c.in_ok-trial.ensures)),
    )
