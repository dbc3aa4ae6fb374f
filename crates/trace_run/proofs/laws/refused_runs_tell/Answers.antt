use Rattle.trace_run.specs.Runs.{calls_of}
use Rattle.trace_run.proofs.Claimed.{refused_by_log}
use Rattle.trace_run.proofs.Telling.{refused_runs_tell}
use Rattle.trace_run.proofs.laws.refused_runs_tell.Goals as goal

pub returns-clause-view : goal.returns-clause-view
returns-clause-view g c = refused_runs_tell (calls_of g.L.Link.answers g.L.Link.given g.L.Link.broken) c.faults_leave_a_prefix.ensures c.traces_grow_until_a_fault.ensures.fault c.states_are_tracers.ensures c.texts_are_whole.ensures c.tracers_write_renderings.ensures c.renderings_grow.ensures

pub returns-clause-log : goal.returns-clause-log
returns-clause-log g c = refused_by_log (calls_of g.L.Link.answers g.L.Link.given g.L.Link.broken) c.no_kill_no_loss.ensures (refused_runs_tell (calls_of g.L.Link.answers g.L.Link.given g.L.Link.broken) c.faults_leave_a_prefix.ensures c.traces_grow_until_a_fault.ensures.fault c.states_are_tracers.ensures c.texts_are_whole.ensures c.tracers_write_renderings.ensures c.renderings_grow.ensures)
