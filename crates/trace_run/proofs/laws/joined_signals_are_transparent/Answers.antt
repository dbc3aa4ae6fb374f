use Rattle.trace_run.specs.Runs.{calls_of}
use Rattle.trace_run.proofs.Claimed.{joined_signals}
use Rattle.trace_run.proofs.laws.joined_signals_are_transparent.Goals as goal

pub returns : goal.returns
returns g c = joined_signals (calls_of g.L.Link.answers g.L.Link.given g.L.Link.broken) c.no_kill_no_loss.ensures c.runs_tell.ensures.own
