use Rattle.std.proofs.Common.{subst}
use Rattle.lx_kernel.specs.Sleeping.{AreApartWatched}
use Rattle.lx_kernel.proofs.Filing.{none_apart}
use Rattle.lx_kernel.proofs.run_queue.RunQueue.wake_changed.Goals as goal

pub returns-in-None-clause-watch : goal.returns-in-None-clause-watch
returns-in-None-clause-watch c = λ known.
    none_apart c.args.self.now c.args.shared.now c.args.tasks.now
    (subst (AreApartWatched c.args.self.now c.args.shared.now c.args.tasks.now) c.in-None.is (c.requires.apart known))
