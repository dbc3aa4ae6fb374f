use Rattle.trace_run.specs.Runs.{calls_of}
use Rattle.trace_run.proofs.Locals.{local_runs_tell}
use Rattle.trace_run.proofs.laws.local_runs_tell.Goals as goal

pub returns : goal.returns
returns g c = local_runs_tell (calls_of g.L.Link.answers g.L.Link.given g.L.Link.broken) (record {
  tells = c.runs_tell.ensures.own;
  own = c.own_replies_tell.ensures.talks;
  lists = c.schedules_are_lists.ensures;
  calls = c.worlds_attend.ensures.calls;
  appends = c.worlds_attend.ensures.append;
  nothing = c.own_replies_tell.ensures.out_of_turns;
  transparent = c.tracing_is_transparent.ensures;
  texts = c.texts_are_whole.ensures;
})
