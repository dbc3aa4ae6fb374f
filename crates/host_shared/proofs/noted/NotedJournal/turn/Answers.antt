use Rattle.std.proofs.Common.{None}
use Rattle.lx_abi.specs.declared.schedule.Event.TheVariants.{Turn}
use Rattle.host_shared.proofs.Noting.{noted_more}
use Rattle.host_shared.proofs.noted.NotedJournal.turn.Goals as goal

pub invariant_of-self : goal.invariant_of-self
invariant_of-self c =
    noted_more c.self.inside.notes c.self.inside.journal c.turn.new.self (Turn c.args.pid) None
    c.self.inside.events c.note.new.self c.self.invariant c.in-Ok.ensures c.turn.ensures
