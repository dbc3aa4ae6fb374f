use Rattle.std.proofs.Common.{None, rules}
use Rattle.lx_open.specs.Rows.{IsRowOf}
use Rattle.lx_open.proofs.Copying.{nothing_given}
use Rattle.lx_open.proofs.sharing.inherit.Goals as goal

pub returns-in-None-clause-ok : goal.returns-in-None-clause-ok
returns-in-None-clause-ok c =
    let none : IsRowOf c.args.map.now c.args.parent None = search rules in
    nothing_given c.args.map.now c.args.parent c.args.child none
