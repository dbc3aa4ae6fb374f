use Rattle.host_shared.proofs.Noting.{noted_asked}
use Rattle.host_shared.proofs.noted.NotedJournal.ask.Goals as goal

pub invariant_of-self : goal.invariant_of-self
invariant_of-self c =
    noted_asked c.self.inside.notes c.self.inside.journal c.ask.new.self c.args.request.now
    c.self.inside.events c.self.invariant c.ask.ensures
