use Rattle.trace_run.specs.Runs.{calls_of}
use Rattle.trace_run.proofs.Claimed.{under_kills}
use Rattle.trace_run.proofs.laws.tracing_is_transparent_under_kills.Goals as goal

pub returns : goal.returns
returns g c = under_kills (calls_of g.L.Link.answers g.L.Link.given g.L.Link.broken) c.runs_tell.ensures.own
