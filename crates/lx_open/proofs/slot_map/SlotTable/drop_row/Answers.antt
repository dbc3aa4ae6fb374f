use Rattle.std.proofs.Common.{[], sym, ap, subst, ◌∙◌}
use Rattle.lx_open.specs.Kinds.{SlotMap}
use Rattle.lx_open.specs.Rows.{AreOfPids, Rows, flat, with_row}
use Rattle.lx_open.proofs.Flat.{pids_removed, row_gone}
use Rattle.lx_open.proofs.slot_map.SlotTable.drop_row.Goals as goal

pub invariant_of-self : goal.invariant_of-self
invariant_of-self c = subst (λ (m : Rows). AreOfPids m) (sym c.remove.ensures.rest) (pids_removed c.self.inside.rows c.args.pid c.self.invariant)

pub returns : goal.returns
returns c = ap flat c.remove.ensures.rest ∙ row_gone c.self.inside.rows c.args.pid ∙ ap (λ (m : SlotMap). with_row m c.args.pid [] 256) c.self.view_is
