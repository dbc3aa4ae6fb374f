use Rattle.std.proofs.Common.{None, Some, ap, subst, ◌∙◌}
use Rattle.std.specs.FinMap as maps
use Rattle.lx_open.specs.Kinds.{SlotMap}
use Rattle.lx_open.specs.Rows.{IsRowOf, flat}
use Rattle.lx_open.proofs.Flat.{row_of, row_like}
use Rattle.lx_open.proofs.slot_map.SlotTable.copy_row.Goals as goal

pub returns-in-None : goal.returns-in-None
returns-in-None c =
    subst (λ (m : SlotMap). IsRowOf m c.args.pid None) c.self.view_is
    (row_like (flat c.self.inside.rows) c.args.pid (maps.get c.self.inside.rows c.args.pid) None c.in-None.ensures (row_of c.self.inside.rows c.args.pid))

pub returns-in_ok-copy-in-Some : goal.returns-in_ok-copy-in-Some
returns-in_ok-copy-in-Some c =
    subst (λ (m : SlotMap). IsRowOf m c.args.pid (Some c.in_ok-copy-in-Some.copy)) c.self.view_is
    (row_like (flat c.self.inside.rows) c.args.pid (maps.get c.self.inside.rows c.args.pid) (Some c.in_ok-copy-in-Some.copy)
    (ap Some c.in_ok-copy-in-Some.ensures ∙ c.in-Some.ensures) (row_of c.self.inside.rows c.args.pid))
