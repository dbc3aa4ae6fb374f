use Rattle.std.proofs.Common.{◌+◌, ◌-◌, ◌≤◌, ◌^◌}
use Rattle.lx_kernel.specs.Scheduling.{AreUnable}
use Rattle.lx_kernel.proofs.scheduling.next_able.Given as goal

abbrev pub invariant-loop-pid : goal.invariant-loop-pid
invariant-loop-pid g l = record {
  low : l.after ≤ l.passed;
  unable : AreUnable l.shared l.tasks (l.after + 1) (l.passed + 1);
}

abbrev pub decreases-loop-pid : goal.decreases-loop-pid
decreases-loop-pid g l = 2 ^ 32 - l.passed
