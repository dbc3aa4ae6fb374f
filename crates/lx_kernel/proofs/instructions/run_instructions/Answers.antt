use Rattle.lx_kernel.proofs.Continuing.{run_continues, run_calls}
use Rattle.lx_kernel.proofs.instructions.run_instructions.Goals as goal

pub returns-clause-follows : goal.returns-clause-follows
returns-clause-follows c = (run_continues c.args.limit c.args.user.now c.requires c.in_ok-progress.progress.ran c.in_ok-progress.progress.step c.run.new.hart c.run.new.space c.in_ok-progress.ensures.ok).1

pub returns-clause-within : goal.returns-clause-within
returns-clause-within c = (run_continues c.args.limit c.args.user.now c.requires c.in_ok-progress.progress.ran c.in_ok-progress.progress.step c.run.new.hart c.run.new.space c.in_ok-progress.ensures.ok).0

pub returns-clause-calls : goal.returns-clause-calls
returns-clause-calls c = run_calls c.args.limit c.args.user.now c.requires c.in_ok-progress.progress.ran c.in_ok-progress.progress.step c.run.new.hart c.run.new.space c.in_ok-progress.ensures.ok
