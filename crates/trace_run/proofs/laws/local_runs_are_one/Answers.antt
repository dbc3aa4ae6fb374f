use Rattle.trace_run.proofs.Resulting.{runs_are_one, traces_are_runs}
use Rattle.trace_run.proofs.laws.local_runs_are_one.Goals as goal

pub returns-clause-runs : goal.returns-clause-runs
returns-clause-runs c = runs_are_one

pub returns-clause-traces : goal.returns-clause-traces
returns-clause-traces c = traces_are_runs
