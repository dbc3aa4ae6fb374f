use Rattle.host_shared.proofs.Knowing.{knows_none}
use Rattle.host_shared.proofs.roster.Roster.of.Goals as goal

pub invariant_of-result : goal.invariant_of-result
invariant_of-result c = knows_none c.args.host c.none.result c.none.ensures
