use Rattle.hosted_traces.proofs.Hosted.{hosted_traces_tell}
use Rattle.hosted_traces.proofs.laws.hosted_traces_tell.Goals as goal

pub returns : goal.returns
returns g c = hosted_traces_tell g.P.Stdout.Read.remaining g.P.Stdin.Write.contents c.runs_over_children_tell.ensures
