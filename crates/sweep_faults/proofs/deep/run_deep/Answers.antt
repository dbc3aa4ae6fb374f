use Rattle.std.proofs.Common.{◌∙◌, refl, sym}
use Rattle.plain_run.proofs.Turning.{told_both, told_nothing}
use Rattle.sweep_faults.proofs.Deeper.{next_less, turn_is}
use Rattle.sweep_faults.proofs.deep.run_deep.Goals as goal

pub turns-init : goal.turns-init
turns-init g c = (λ z rest. rest, told_nothing c.args.kernel.now (g.W.Watch.told c.args.watch.now), refl, c.requires)

pub returns-in_default-clause-told : goal.returns-in_default-clause-told
returns-in_default-clause-told g c = c.turns.invariant.1

pub returns-in_default-clause-heard : goal.returns-in_default-clause-heard
returns-in_default-clause-heard g c = c.turns.invariant.3

pub returns-in-Err-clause-told : goal.returns-in-Err-clause-told
returns-in-Err-clause-told g c = told_both _ _ _ _ _ _ c.turns.invariant.1 c.in-Err.ensures.told

pub turns-smaller : goal.turns-smaller
turns-smaller g c =
    next_less c.args.deep c.turns.kernel c.turns.schedule c.in-Some.pid c.next_turn.new.schedule
    (sym c.in-Some.is ∙ c.next_turn.ensures.next) c.next_turn.ensures.rest

pub turns-preserved : goal.turns-preserved
turns-preserved g c = (
  λ z rest. c.turns.invariant.0 z
      (turn_is c.args.deep c.turns.kernel c.turns.schedule c.in-Some.pid c.next_turn.new.schedule c.advance.new.kernel z
      (sym c.in-Some.is ∙ c.next_turn.ensures.next) c.next_turn.ensures.rest c.in_default-advance.ensures.turned rest),
  told_both _ _ _ _ _ _ c.turns.invariant.1 c.in_default-advance.ensures.told,
  c.in_default-advance.ensures.begun ∙ c.turns.invariant.2,
  c.in_default-advance.ensures.heard,
)
