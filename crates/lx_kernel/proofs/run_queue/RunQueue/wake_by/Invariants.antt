use Rattle.std.proofs.Common.{◌≡◌, ◌-◌, ◌^◌, Some, true}
use Rattle.lx_kernel.specs.Sleeping.{AreFiled, AreApartWatched}
use Rattle.lx_kernel.proofs.Filing.{WatchedUpTo}
use Rattle.lx_kernel.proofs.run_queue.RunQueue.wake_by.Given as goal

abbrev pub invariant-loop-pid : goal.invariant-loop-pid
invariant-loop-pid l = record {
  filed : l.self.known ≡ true → AreFiled l.self l.shared l.tasks;
  apart : l.self.known ≡ true → AreApartWatched l.self l.shared l.tasks (Some l.fn.pipe);
  seen : l.self.known ≡ true → WatchedUpTo l.self l.shared l.tasks l.passed;
}

abbrev pub decreases-loop-pid : goal.decreases-loop-pid
decreases-loop-pid l = 2 ^ 32 - l.passed
