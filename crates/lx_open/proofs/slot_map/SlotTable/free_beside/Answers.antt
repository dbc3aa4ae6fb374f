use Rattle.std.proofs.Common.{◌≡◌, None, ap, subst, ◌∙◌}
use Rattle.std.specs.Prelude.{IfSome, ◌==◌, ◌&&◌, not, find, is_none}
use Rattle.std.specs.List.{range_with_len}
use Rattle.std.specs.FinMap as maps
use Rattle.lx_open.specs.Kinds.{SlotMap}
use Rattle.lx_open.specs.Opens.{pair, free_but}
use Rattle.lx_open.specs.Rows.{row_slot}
use Rattle.lx_open.proofs.Freeing.{free_but_flat, none_in_flat}
use Rattle.lx_open.proofs.slot_map.SlotTable.free_beside.Goals as goal

pub returns-clause-value : goal.returns-clause-value
returns-clause-value c =
    c.find_free_beside.ensures.value
    ∙ ap (λ o. find (λ q. not (q == c.args.first) && is_none (row_slot o q)) (range_with_len 0 256)) c.get.ensures
    ∙ free_but_flat c.self.inside.rows c.args.pid c.args.first
    ∙ ap (λ (m : SlotMap). free_but m c.args.pid c.args.first) c.self.view_is

pub returns-clause-free : goal.returns-clause-free
returns-clause-free c =
    let r = c.find_free_beside.result in
    subst (λ (m : SlotMap). IfSome r (λ fd. maps.get m (pair c.args.pid fd) ≡ None)) c.self.view_is
    (none_in_flat c.self.inside.rows c.args.pid r c.find_free_beside.ensures.small
    (subst (λ o. IfSome r (λ fd. row_slot o fd ≡ None)) c.get.ensures c.find_free_beside.ensures.free))
