use Rattle.std.proofs.Common.{◌++◌, List, ap, sym, ◌∙◌}
use Rattle.lx_abi.specs.declared.log.Item.{Item}
use Rattle.turn_orders.specs.Switches.{switches_at, switches_in}
use Rattle.turn_orders.specs.Steps.{steps_with}
use Rattle.turn_orders.specs.declared.steps.Steps.{Steps}
use Rattle.turn_orders.proofs.Lists.{more_added}
use Rattle.turn_orders.proofs.switches.switches_of.Goals as goal

pub loop-item-preserved : goal.loop-item-preserved
loop-item-preserved c =
    let before = c.loop-item.switches.items in
    let after = c.add_before.new.switches.items in
    let steps = c.loop-item.steps in
    let item = c.in-Some.item.now in
    let rest = c.in-Some.rest.now in
    ap (λ (s : Steps). after ++ switches_in s rest) c.in_ok-add.ensures
    ∙ more_added before after (switches_at steps item rest) (switches_in (steps_with steps item) rest) c.in_ok-add_before.ensures
    ∙ ap (λ (items : List Item). before ++ switches_in steps items) (sym c.in-Some.ensures.cases.0)
    ∙ c.loop-item.invariant
