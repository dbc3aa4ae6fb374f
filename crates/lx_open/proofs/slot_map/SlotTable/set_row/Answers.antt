use Rattle.std.proofs.Common.{sym, ap, subst, ◌∙◌, arith}
use Rattle.lx_open.specs.Kinds.{SlotMap}
use Rattle.lx_open.specs.Rows.{AreOfPids, Rows, flat, with_row}
use Rattle.lx_open.proofs.Flat.{pids_put, row_set}
use Rattle.lx_open.proofs.slot_map.SlotTable.set_row.Goals as goal

pub invariant_of-self-2 : goal.invariant_of-self-2
invariant_of-self-2 c =
    subst (λ (m : Rows). AreOfPids m) (sym c.in_ok-insert.ensures.ok)
    (pids_put c.self.inside.rows c.args.pid c.args.row (omega (arith, c.ranges)) c.self.invariant)

pub returns-clause-ok : goal.returns-clause-ok
returns-clause-ok c =
    ap flat c.in_ok-insert.ensures.ok ∙ row_set c.self.inside.rows c.args.pid c.args.row
    ∙ ap (λ (m : SlotMap). with_row m c.args.pid c.args.row 256) c.self.view_is
