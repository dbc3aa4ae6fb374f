use Rattle.std.proofs.Common.{◌≡◌, None, ap, subst, ◌∙◌}
use Rattle.std.specs.Prelude.{IfSome, find, is_none}
use Rattle.std.specs.List.{range_with_len}
use Rattle.std.specs.FinMap as maps
use Rattle.lx_open.specs.Kinds.{SlotMap}
use Rattle.lx_open.specs.Opens.{pair, free}
use Rattle.lx_open.specs.Rows.{row_slot}
use Rattle.lx_open.proofs.Freeing.{free_flat, none_in_flat}
use Rattle.lx_open.proofs.slot_map.SlotTable.free.Goals as goal

pub returns-clause-value : goal.returns-clause-value
returns-clause-value c =
    c.find_free.ensures.value
    ∙ ap (λ o. find (λ q. is_none (row_slot o q)) (range_with_len 0 256)) c.get.ensures
    ∙ free_flat c.self.inside.rows c.args.pid
    ∙ ap (λ (m : SlotMap). free m c.args.pid) c.self.view_is

pub returns-clause-free : goal.returns-clause-free
returns-clause-free c =
    let r = c.find_free.result in
    subst (λ (m : SlotMap). IfSome r (λ fd. maps.get m (pair c.args.pid fd) ≡ None)) c.self.view_is
    (none_in_flat c.self.inside.rows c.args.pid r c.find_free.ensures.small
    (subst (λ o. IfSome r (λ fd. row_slot o fd ≡ None)) c.get.ensures c.find_free.ensures.free))
