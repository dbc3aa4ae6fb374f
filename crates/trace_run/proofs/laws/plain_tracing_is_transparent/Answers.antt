use Rattle.trace_run.specs.Runs.{calls_of}
use Rattle.trace_run.proofs.Claimed.{plain_tracing}
use Rattle.trace_run.proofs.laws.plain_tracing_is_transparent.Goals as goal

pub returns : goal.returns
returns g c = plain_tracing (calls_of g.L.Link.answers g.L.Link.given g.L.Link.broken) c.joined_signals_are_transparent.ensures
