use Rattle.host_shared.proofs.Knowing.{knows_none}
use Rattle.host_shared.proofs.roster.Roster.serve.Goals as goal

pub invariant_of-self : goal.invariant_of-self
invariant_of-self c = knows_none c.event.new.self c.none-self-inside.result c.none-self-inside.ensures
