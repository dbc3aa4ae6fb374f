use Rattle.std.proofs.Common.{◌∙◌, refl}
use Rattle.pt_schedule.specs.Schedules.{events_left}
use Rattle.pt_schedule.specs.Untraced.{readiness_of}
use Rattle.lx_kernel.specs.Runs.{after_turn}
use Rattle.plain_run.proofs.Turning.{turn_is, turn_less, fewer_still, told_nothing, told_both}
use Rattle.plain_run.proofs.Noting.{noted_nothing, noted_more, noted_end}
use Rattle.plain_run.proofs.running.run.Goals as goal

pub returns-in_default-clause-told : goal.returns-in_default-clause-told
returns-in_default-clause-told g c = c.turns.invariant.1

pub returns-in-Err-clause-told : goal.returns-in-Err-clause-told
returns-in-Err-clause-told g c = told_both _ _ _ _ _ _ c.turns.invariant.1 c.in-Err.ensures.told

pub turns-init : goal.turns-init
turns-init g c = (λ z rest. rest, told_nothing _ _, refl, λ first. noted_nothing _ _ _)

pub turns-smaller : goal.turns-smaller
turns-smaller g c = fewer_still (events_left c.turn.new.schedule) (events_left c.next_plain.new.self) (events_left c.turns.schedule) c.in_default-turn.ensures.fewer
    (turn_less c.turns.schedule (readiness_of c.turns.kernel) c.in-Some.pid c.next_plain.new.self c.in-Some.ensures)

pub turns-preserved : goal.turns-preserved
turns-preserved g c = (
  λ z rest. c.turns.invariant.0 z
      (turn_is c.turns.kernel c.turns.schedule c.in-Some.pid c.next_plain.new.self (after_turn c.turns.kernel c.in-Some.pid) z c.in-Some.ensures refl
      (c.in_default-turn.ensures.on z rest)),
  told_both _ _ _ _ _ _ c.turns.invariant.1 c.in_default-turn.ensures.told,
  c.in_default-turn.ensures.begun ∙ c.turns.invariant.2,
  λ first. noted_more _ _ _ _ _ _ _ _ _ _ _ (c.turns.invariant.3 first) c.in-Some.ensures (c.in_default-turn.ensures.noted first),
)

pub returns-in_default-clause-noted : goal.returns-in_default-clause-noted
returns-in_default-clause-noted g c = λ first. noted_end _ _ _ _ _ _ _ (c.turns.invariant.3 first) c.in_default.ensures
