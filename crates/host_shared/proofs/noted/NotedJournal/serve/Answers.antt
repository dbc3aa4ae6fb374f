use Rattle.std.proofs.Common.{Some}
use Rattle.lx_abi.specs.declared.schedule.Event.TheVariants.{Serve}
use Rattle.host_shared.proofs.Noting.{noted_more}
use Rattle.host_shared.proofs.noted.NotedJournal.serve.Goals as goal

pub invariant_of-self : goal.invariant_of-self
invariant_of-self c =
    noted_more c.self.inside.notes c.self.inside.journal c.serve.new.self Serve (Some c.args.reply.now)
    c.self.inside.events c.note.new.self c.self.invariant c.in-Ok.ensures c.serve.ensures
