use Rattle.front_end.specs.Streams.{opened_contents}
use Rattle.hosted_traces.proofs.Plans.{hosted_plans_tell}
use Rattle.hosted_traces.proofs.laws.hosted_plans_tell.Goals as goal

pub returns : goal.returns
returns g c =
    hosted_plans_tell (opened_contents g.F.Write.contents) g.P.Stdout.Read.remaining g.P.Stdin.Write.contents
    c.hosted_traces_tell.ensures
