use Rattle.std.proofs.Common.{ap, ◌∙◌}
use Rattle.std.specs.FinMap as maps
use Rattle.lx_proc.specs.Pairs.{PairSet, has}
use Rattle.lx_kernel.proofs.Placed.{other_put, other_left}
use Rattle.lx_kernel.proofs.Sleeping.{put_there}
use Rattle.lx_kernel.proofs.run_queue.RunQueue.keep_awake.Goals as goal

pub returns-then-not-is_awake-clause-itself : goal.returns-then-not-is_awake-clause-itself
returns-then-not-is_awake-clause-itself c = λ known unwatched.
    put_there c.args.self.now.awake c.wake.new.self.awake c.args.pid tt (c.wake.ensures.awake known) unwatched

pub returns-then-not-is_awake-clause-others : goal.returns-then-not-is_awake-clause-others
returns-then-not-is_awake-clause-others c = λ known. (
  c.wake.ensures.known known,
  λ q ne. (
    ap (λ m. maps.get m q) (c.wake.ensures.awake known) ∙ other_put c.args.self.now.awake c.args.pid q ne tt,
    ap (λ m. maps.get m q) c.wake.ensures.asleep ∙ other_left c.args.self.now.asleep c.args.pid q ne,
    λ n. ap (λ (pairs : PairSet). has pairs n q) c.wake.ensures.by_pipe ∙ c.take_from_pipe.ensures q n ne,
  ),
)
