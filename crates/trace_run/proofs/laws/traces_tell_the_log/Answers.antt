use Rattle.trace_run.proofs.Resulting.{traces_tell_log}
use Rattle.trace_run.proofs.laws.traces_tell_the_log.Goals as goal

pub returns : goal.returns
returns c = traces_tell_log c.no_kill_no_loss.ensures
