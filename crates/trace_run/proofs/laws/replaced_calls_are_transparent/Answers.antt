use Rattle.trace_run.specs.Runs.{calls_of}
use Rattle.trace_run.proofs.Claimed.{replaced_calls}
use Rattle.trace_run.proofs.laws.replaced_calls_are_transparent.Goals as goal

pub returns : goal.returns
returns g c = replaced_calls (calls_of g.L.Link.answers g.L.Link.given g.L.Link.broken) c.joined_signals_are_transparent.ensures
