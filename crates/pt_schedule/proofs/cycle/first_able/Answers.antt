use Rattle.std.proofs.Common.{◌≡◌, true, false, None, Some, sym, subst, ◌∙◌, ◌+◌, ◌<◌, ℕ, arith}
use Rattle.pt_schedule.specs.Cycle.{IsNextPlace}
use Rattle.pt_schedule.proofs.Cycling.{first_able-skip, first_able-none, first_able-here, first_able-next}
use Rattle.pt_schedule.proofs.cycle.first_able.Goals as goal

pub returns-then-pid-end : goal.returns-then-pid-end
returns-then-pid-end g c =
    let able = (g.S.Schedulable.readiness c.args.system.now).able in
    let h = subst (IsNextPlace able c.loop-pid.passed) c.in-Some.is c.next_after.ensures in
    sym (first_able-none able (c.loop-pid.passed + 1) c.args.end c.loop-pid.invariant.within (λ n l m. h.1 n (omega (arith, l)) (omega (arith, m, c.if-pid-end.true))))
    ∙ c.loop-pid.invariant.same

pub returns-then-is_able : goal.returns-then-is_able
returns-then-is_able g c =
    let able = (g.S.Schedulable.readiness c.args.system.now).able in
    let h = subst (IsNextPlace able c.loop-pid.passed) c.in-Some.is c.next_after.ensures in
    sym (first_able-skip able (c.loop-pid.passed + 1) c.in-Some.pid c.args.end (omega (arith, h.0)) (omega (arith, c.if-pid-end.false)) (λ n l m. h.1 n (omega (arith, l)) m)
    ∙ first_able-here able c.in-Some.pid c.args.end c.if-pid-end.false (sym c.is_able.ensures ∙ c.if-is_able.true))
    ∙ c.loop-pid.invariant.same

pub loop-pid-preserved : goal.loop-pid-preserved
loop-pid-preserved g c =
    let able = (g.S.Schedulable.readiness c.args.system.now).able in
    let h = subst (IsNextPlace able c.loop-pid.passed) c.in-Some.is c.next_after.ensures in
    record {
      within = omega (arith, c.if-pid-end.false);
      same = sym (first_able-skip able (c.loop-pid.passed + 1) c.in-Some.pid c.args.end (omega (arith, h.0)) (omega (arith, c.if-pid-end.false)) (λ n l m. h.1 n (omega (arith, l)) m)
          ∙ first_able-next able c.in-Some.pid c.args.end c.if-pid-end.false (sym c.is_able.ensures ∙ c.if-is_able.false))
          ∙ c.loop-pid.invariant.same;
    }

pub returns : goal.returns
returns g c =
    let able = (g.S.Schedulable.readiness c.args.system.now).able in
    let h = subst (IsNextPlace able c.loop-pid.passed) c.in_default.is c.next_after.ensures in
    sym (first_able-none able (c.loop-pid.passed + 1) c.args.end c.loop-pid.invariant.within (λ n l m. h n (omega (arith, l))))
    ∙ c.loop-pid.invariant.same
