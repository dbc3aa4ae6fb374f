use Rattle.trace_run.specs.BootedRuns.{KeptRun}
use Rattle.trace_run.proofs.local.kept_run.Goals as goal

pub returns : goal.returns
unfolding KeptRun
returns c = c.run.ensures.run
