use Rattle.std.proofs.Common.{None, sym, subst}
use Rattle.lx_open.specs.Kinds.{SlotMap}
use Rattle.lx_open.specs.Nexts.{IsNextOpen}
use Rattle.lx_open.proofs.Flat.{next_none, next_flat}
use Rattle.lx_open.proofs.slot_map.SlotTable.next_open.Goals as goal

pub returns-in-None : goal.returns-in-None
returns-in-None c =
    subst (λ (m : SlotMap). IsNextOpen m c.args.pid c.args.fd None) c.self.view_is
    (next_none c.self.inside.rows c.args.pid c.args.fd (sym c.in-None.ensures))

pub returns-in-Some : goal.returns-in-Some
returns-in-Some c =
    subst (λ (m : SlotMap). IsNextOpen m c.args.pid c.args.fd c.next_open.result) c.self.view_is
    (next_flat c.self.inside.rows c.args.pid c.args.fd c.in-Some.row.now c.next_open.result c.in-Some.ensures c.next_open.ensures)
