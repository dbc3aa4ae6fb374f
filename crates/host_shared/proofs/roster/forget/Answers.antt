use Rattle.host_shared.proofs.Knowing.{knows_none}
use Rattle.host_shared.proofs.roster.forget.Goals as goal

pub returns : goal.returns
returns c = knows_none c.args.host.now c.none.result c.none.ensures
