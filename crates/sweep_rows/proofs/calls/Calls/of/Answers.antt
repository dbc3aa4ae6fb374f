use Rattle.std.proofs.Common.{List, [], ◌∷◌, ◌++◌, refl}
use Rattle.lx_abi.specs.declared.log.Item.{Item}
use Rattle.sweep_rows.proofs.Numbers.{all_made, grouped}
use Rattle.sweep_rows.proofs.calls.Calls.of.Goals as goal

pub loop-item-init : goal.loop-item-init
loop-item-init c = ([], refl, c.new-calls.ensures)

pub loop-item-preserved : goal.loop-item-preserved
loop-item-preserved c =
    let past : List Item = c.loop-item.invariant.0 in (
      past ++ c.in-Some.item.now ∷ [],
      grouped past c.in-Some.item.now c.loop-item.left.now c.in-Some.rest.now c.args.log.now c.loop-item.invariant.1 c.in-Some.ensures.cases.0,
      c.in_ok-add.ensures past c.loop-item.invariant.2,
    )

pub returns : goal.returns
returns c =
    all_made c.loop-item.calls c.loop-item.invariant.0 c.loop-item.left.now c.args.log.now c.in_default.ensures.cases c.loop-item.invariant.1 c.loop-item.invariant.2
