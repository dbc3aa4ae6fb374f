use Rattle.std.proofs.Common.{subst}
use Rattle.std.specs.Option.{option_copied}
use Rattle.std.specs.FinMap as maps
use Rattle.lx_open.specs.Kinds.{SlotMap}
use Rattle.lx_open.specs.Rows.{IsRowOf, flat}
use Rattle.lx_open.proofs.Flat.{row_of, row_like}
use Rattle.lx_open.proofs.slot_map.SlotTable.row.Goals as goal

pub returns : goal.returns
returns c =
    subst (λ (m : SlotMap). IsRowOf m c.args.pid (option_copied c.get.result)) c.self.view_is
    (row_like (flat c.self.inside.rows) c.args.pid (maps.get c.self.inside.rows c.args.pid) (option_copied c.get.result) c.get.ensures (row_of c.self.inside.rows c.args.pid))
