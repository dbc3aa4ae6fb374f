use Rattle.std.proofs.Common.{◌≡◌, ◌-◌, Some, None, sym, ap, ◌∙◌, arith, get_or, take, length}
use Rattle.std.specs.Prelude.{slice_get}
use Rattle.lx_open.specs.Rows.{Slots}
use Rattle.lx_open.proofs.InRow.{trimmed}
use Rattle.lx_open.proofs.row.trim.Goals as goal

pub loop-slots-preserved : goal.loop-slots-preserved
loop-slots-preserved c =
    let items = c.loop-slots.slots.items in
    let len : c.loop-slots.slots.len - 1 ≡ length items - 1 = omega (arith, c.loop-slots.slots.ok.0) in
    let none : slice_get items (length items - 1) ≡ Some None = sym (ap (λ (xs : Slots). slice_get xs (length xs - 1)) c.deref.ensures.value) ∙ c.ends_empty.ensures c.loop-slots-test.true in
    λ q. ap (λ (xs : Slots). get_or xs q None) (c.pop.ensures.rest ∙ ap (λ n. take n items) len) ∙ trimmed items none q ∙ c.loop-slots.invariant q
