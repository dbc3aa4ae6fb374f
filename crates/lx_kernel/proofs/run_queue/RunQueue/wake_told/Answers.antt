use Rattle.lx_kernel.proofs.Sleeping.{listed_but}
use Rattle.lx_kernel.proofs.run_queue.RunQueue.wake_told.Goals as goal

pub returns-then-told-pid-clause-listed : goal.returns-then-told-pid-clause-listed
returns-then-told-pid-clause-listed c = λ known.
    let same = c.sort.ensures.others known in
    listed_but c.args.self.now c.sort.new.self c.args.shared.now c.args.tasks.now c.args.told same (c.sort.ensures.itself known) (λ q up ne. c.requires same.0 q up (λ e. absurd (ne e)))
