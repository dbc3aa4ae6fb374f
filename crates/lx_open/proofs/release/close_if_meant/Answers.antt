use Rattle.std.proofs.Common.{sym, ◌∙◌}
use Rattle.lx_open.proofs.Closing.{closed_meant}
use Rattle.lx_open.proofs.release.close_if_meant.Goals as goal

pub returns-clause-held : goal.returns-clause-held
returns-clause-held c =
    c.close_one.ensures.held
    ∙ closed_meant c.args.on_exec (record { tree = c.args.tree.now; fds = c.args.fds.now }) c.args.pid c.args.fd (sym c.stays_open.ensures ∙ c.if-stays_open.false)
