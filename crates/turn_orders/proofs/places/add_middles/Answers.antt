use Rattle.std.proofs.Common.{ℕ, ◌-◌, ◌++◌, List, [], ◌∷◌, ap, sym, ◌∙◌}
use Rattle.turn_orders.specs.Places.{middles}
use Rattle.turn_orders.specs.declared.places.Gap.{Gap}
use Rattle.turn_orders.proofs.Spreading.{one_middle}
use Rattle.turn_orders.proofs.places.add_middles.Goals as goal

pub loop-left-preserved : goal.loop-left-preserved
loop-left-preserved c =
    let before = c.loop-left.places.items in
    let gap = c.in-Some.gap in
    let left = c.loop-left.left in
    ap (λ (ps : List ℕ). ps ++ middles (left - 1) c.add_halves.new.gaps.items) c.in_ok-push.ensures.items
    ∙ ap (λ (gs : List Gap). (before ++ gap.middle ∷ []) ++ middles (left - 1) gs) c.in_ok-add_halves.ensures
    ∙ one_middle before left gap c.pop_front.new.self.items c.loop-left-test.true
    ∙ ap (λ (gs : List Gap). before ++ middles left gs) (sym c.in-Some.ensures.items)
    ∙ c.loop-left.invariant
