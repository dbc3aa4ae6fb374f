use Rattle.trace_run.specs.Runs.{calls_of}
use Rattle.trace_run.proofs.Waits.{writes_before_it_waits}
use Rattle.trace_run.proofs.laws.runs_write_before_they_wait.Goals as goal

pub returns : goal.returns
returns g c = writes_before_it_waits (calls_of g.L.Link.answers g.L.Link.given g.L.Link.broken) c.tracing_is_transparent.ensures c.replies_tell_all.ensures.all c.worlds_attend.ensures.used c.own_replies_tell.ensures.out_of_turns c.states_are_tracers.ensures c.texts_are_whole.ensures c.tracers_write_renderings.ensures
