use Rattle.trace_run.proofs.Waits.{traces_write_before_they_wait}
use Rattle.trace_run.proofs.laws.traces_write_before_they_wait.Goals as goal

pub returns : goal.returns
returns c = traces_write_before_they_wait c.schedules_are_lists.ensures c.own_replies_tell.ensures.talks c.runs_write_before_they_wait.ensures c.linux_is_a_machine.ensures c.linux_is_told.ensures
