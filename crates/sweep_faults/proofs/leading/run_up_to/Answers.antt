use Rattle.std.proofs.Common.{◌<◌, arith}
use Rattle.std.proofs.lemmas.Bool.Decides.{nat_tests}
use Rattle.pt_schedule.specs.Schedules.{events_left}
use Rattle.pt_schedule.specs.Untraced.{readiness_of}
use Rattle.plain_run.proofs.Turning.{fewer_still, turn_less}
use Rattle.sweep_faults.proofs.Ahead.{comes_first, comes_later, ends_there, is_ahead, is_past, leads_later, leads_nowhere, stands_there}
use Rattle.sweep_faults.proofs.leading.run_up_to.Goals as goal

pub returns-then-ahead-eq0-clause-ends : goal.returns-then-ahead-eq0-clause-ends
returns-then-ahead-eq0-clause-ends c = λ e ahead.
    let none = c.if-ahead-eq0.true in
    is_past c.args.place c.left_to-ahead.result c.args.kernel.now.running.log
    (c.left_to-ahead.ensures c.args.kernel.now.running.log c.requires.heard)
    (grind (arith, nat_tests, none)) ahead

pub turns-init : goal.turns-init
turns-init c =
    let some = c.if-ahead-eq0.false in
    let more : 0 < c.left_to-ahead.result = grind (arith, nat_tests, some) in (
      leads_nowhere c.args.kernel.now c.args.schedule.now,
      is_ahead c.args.place c.left_to-ahead.result c.args.kernel.now.running.log
          (c.left_to-ahead.ensures c.args.kernel.now.running.log c.requires.heard)
          more,
      more,
      c.requires,
    )

pub returns-in_default-clause-ends : goal.returns-in_default-clause-ends
returns-in_default-clause-ends c = λ e ahead.
    ends_there c.args.place c.args.kernel.now c.turns.kernel c.args.schedule.now c.turns.schedule c.turns.invariant.0
    (comes_later c.args.place c.turns.left c.turns.kernel.running.log c.turns.invariant.1 c.turns.invariant.2)
    c.next_plain.new.self c.in_default.ensures

pub returns-then-left-eq0-clause-stands : goal.returns-then-left-eq0-clause-stands
returns-then-left-eq0-clause-stands c = λ e.
    let none = c.if-left-eq0.true in
    stands_there c.args.place c.args.kernel.now c.turns.kernel c.args.schedule.now c.turns.schedule c.turns.invariant.0
    (comes_later c.args.place c.turns.left c.turns.kernel.running.log c.turns.invariant.1 c.turns.invariant.2)
    c.in-Some.pid c.next_plain.new.self c.turn.new.schedule c.turn.new.kernel c.in-Some.ensures c.in_default-turn.ensures.on
    c.turn.new.left
    (comes_first c.args.place c.left_to-ahead.result c.args.kernel.now.running.log
    (c.left_to-ahead.ensures c.args.kernel.now.running.log c.requires.heard)
    c.if-ahead-eq0.false)
    c.in_default-turn.ensures.ahead (grind (arith, nat_tests, none))

pub turns-smaller : goal.turns-smaller
turns-smaller c =
    fewer_still (events_left c.turn.new.schedule) (events_left c.next_plain.new.self) (events_left c.turns.schedule) c.in_default-turn.ensures.fewer
    (turn_less c.turns.schedule (readiness_of c.turns.kernel) c.in-Some.pid c.next_plain.new.self c.in-Some.ensures)

pub turns-preserved : goal.turns-preserved
turns-preserved c =
    let some = c.if-left-eq0.false in (
      leads_later c.args.place c.args.kernel.now c.turns.kernel c.args.schedule.now c.turns.schedule c.turns.invariant.0
          (comes_later c.args.place c.turns.left c.turns.kernel.running.log c.turns.invariant.1 c.turns.invariant.2)
          c.in-Some.pid c.next_plain.new.self c.turn.new.schedule c.turn.new.kernel c.in-Some.ensures c.in_default-turn.ensures.on,
      c.in_default-turn.ensures.ahead,
      grind (arith, nat_tests, some),
      c.in_default-turn.ensures.heard,
    )

pub returns-in_default-clause-heard : goal.returns-in_default-clause-heard
returns-in_default-clause-heard c = c.turns.invariant.3
