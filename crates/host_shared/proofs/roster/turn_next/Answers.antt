use Rattle.host_shared.proofs.Knowing.{learns}
use Rattle.host_shared.proofs.roster.turn_next.Goals as goal

pub returns-clause-known : goal.returns-clause-known
returns-clause-known c = λ knows.
    learns c.runs_leave_alike.ensures c.args.host.now c.turn.new.self c.args.followers.now c.learn.new.self c.args.last c.args.pid c.in-Ok.ensures.after (c.in-Ok.ensures.ran c.if-not-ran.false) c.requires c.learn.ensures knows
