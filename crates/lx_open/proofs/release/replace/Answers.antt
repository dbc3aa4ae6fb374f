use Rattle.std.proofs.Common.{ap, ◌∙◌}
use Rattle.lx_open.specs.Opens.{FdTable}
use Rattle.lx_open.specs.Releases.{description_released}
use Rattle.lx_open.proofs.Replacing.{replaced_none, replaced_some}
use Rattle.lx_open.proofs.release.replace.Goals as goal

pub returns-in-Some-clause-ok : goal.returns-in-Some-clause-ok
returns-in-Some-clause-ok c =
    c.release_description.ensures.held
    ∙ ap (λ (t : FdTable). description_released c.args.tree.now t c.in-Some.old.description) c.in_ok-put.ensures.ok
    ∙ replaced_some c.args.tree.now c.args.fds.now c.args.pid c.args.fd c.args.slot c.in-Some.old c.in-Some.ensures c.requires.named

pub returns-in_default-clause-ok : goal.returns-in_default-clause-ok
returns-in_default-clause-ok c =
    ap (λ (t : FdTable). record { tree = c.args.tree.now; fds = t }) c.in_ok-put.ensures.ok
    ∙ replaced_none c.args.tree.now c.args.fds.now c.args.pid c.args.fd c.args.slot c.slot-was.result c.in_default.not-Some c.slot-was.ensures
