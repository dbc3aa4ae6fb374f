use Rattle.trace_run.specs.Runs.{calls_of}
use Rattle.trace_run.proofs.Resulting.{linux_runs_tell, linux_refused_runs_tell}
use Rattle.trace_run.proofs.laws.linux_runs_tell.Goals as goal

pub returns-clause-own : goal.returns-clause-own
returns-clause-own g c = linux_runs_tell (calls_of g.L.Link.answers g.L.Link.given g.L.Link.broken) c.runs_tell.ensures.own c.linux_is_a_machine.ensures c.linux_is_told.ensures

pub returns-clause-refused : goal.returns-clause-refused
returns-clause-refused g c = linux_refused_runs_tell (calls_of g.L.Link.answers g.L.Link.given g.L.Link.broken) c.refused_runs_tell.ensures.view c.linux_is_a_machine.ensures c.linux_is_told.ensures
