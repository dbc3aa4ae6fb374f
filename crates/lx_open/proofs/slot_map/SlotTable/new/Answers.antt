use Rattle.lx_open.proofs.Flat.{pids_of_none, none_flat}
use Rattle.lx_open.proofs.slot_map.SlotTable.new.Goals as goal

pub invariant_of-result : goal.invariant_of-result
invariant_of-result c = pids_of_none c.new.result c.new.ensures

pub returns : goal.returns
returns c = none_flat c.new.result c.new.ensures
