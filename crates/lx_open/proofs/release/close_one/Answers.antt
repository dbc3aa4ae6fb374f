use Rattle.std.proofs.Common.{ap, sym, ◌∙◌}
use Rattle.std.specs.FinMap as maps
use Rattle.lx_open.proofs.Closing.{closed_none}
use Rattle.lx_open.proofs.release.close_one.Goals as goal

pub returns-in-None-clause-held : goal.returns-in-None-clause-held
returns-in-None-clause-held c =
    closed_none c.args.tree.now c.args.fds.now c.args.pid c.args.fd c.remove.new.self
    (ap (maps.get c.args.fds.now.slots) (sym c.pair.ensures) ∙ sym c.in-None.ensures.value)
    (c.remove.ensures.rest ∙ ap (maps.remove c.args.fds.now.slots) c.pair.ensures)
