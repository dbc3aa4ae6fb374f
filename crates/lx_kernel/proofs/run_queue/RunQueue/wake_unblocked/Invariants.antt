use Rattle.std.proofs.Common.{◌≡◌, ◌-◌, ◌^◌, true}
use Rattle.lx_kernel.specs.Sleeping.{AreListed}
use Rattle.lx_kernel.proofs.Sleeping.{BlockedUpTo}
use Rattle.lx_kernel.proofs.Filing.{FiledUpTo}
use Rattle.lx_kernel.proofs.run_queue.RunQueue.wake_unblocked.Given as goal

abbrev pub invariant-loop-pid : goal.invariant-loop-pid
invariant-loop-pid l = record {
  listed : l.self.known ≡ true → AreListed l.self l.shared l.tasks;
  seen : l.self.known ≡ true → BlockedUpTo l.self l.shared l.tasks l.passed;
  filed : l.self.known ≡ true → FiledUpTo l.self l.shared l.tasks l.passed;
}

abbrev pub decreases-loop-pid : goal.decreases-loop-pid
decreases-loop-pid l = 2 ^ 32 - l.passed
