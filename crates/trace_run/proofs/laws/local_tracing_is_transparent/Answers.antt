use Rattle.trace_run.proofs.Resulting.{plain_runs, replaced_runs, joined_runs, killed_runs}
use Rattle.trace_run.proofs.laws.local_tracing_is_transparent.Goals as goal

pub returns-clause-plain : goal.returns-clause-plain
returns-clause-plain c = plain_runs c.no_kill_no_loss.ensures

pub returns-clause-replaced : goal.returns-clause-replaced
returns-clause-replaced c = replaced_runs c.no_kill_no_loss.ensures

pub returns-clause-joined : goal.returns-clause-joined
returns-clause-joined c = joined_runs c.no_kill_no_loss.ensures

pub returns-clause-killed : goal.returns-clause-killed
returns-clause-killed c = killed_runs
