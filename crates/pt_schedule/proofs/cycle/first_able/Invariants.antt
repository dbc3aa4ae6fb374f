use Rattle.std.proofs.Common.{◌≡◌, ◌-◌, ◌+◌, ◌≤◌}
use Rattle.pt_schedule.specs.Cycle.{first_able}
use Rattle.pt_schedule.proofs.cycle.first_able.Given as goal

abbrev pub invariant-loop-pid : goal.invariant-loop-pid
invariant-loop-pid g l = record {
  within : l.passed + 1 ≤ l.end;
  same : first_able (g.S.Schedulable.readiness l.system).able (l.passed + 1) (l.end - (l.passed + 1)) ≡ first_able (g.S.Schedulable.readiness l.system).able l.fn.from (l.end - l.fn.from);
}

abbrev pub decreases-loop-pid : goal.decreases-loop-pid
decreases-loop-pid g l = l.end - l.passed
