use Rattle.std.proofs.Common.{false}
use Rattle.lx_kernel.proofs.Filing.{pairs_others}
use Rattle.lx_kernel.proofs.run_queue.take_from_pipe.Goals as goal

pub returns-in-Some : goal.returns-in-Some
returns-in-Some c = pairs_others c.in-Some.pipe c.args.pid false c.args.by_pipe.now c.remove.new.self c.remove.ensures
