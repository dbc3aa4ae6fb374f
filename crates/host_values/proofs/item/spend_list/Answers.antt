use Rattle.host_values.proofs.Sizes.{list_ends, list_passes}
use Rattle.host_values.proofs.item.spend_list.Goals as goal

pub returns-in_err-left-2 : goal.returns-in_err-left-2
returns-in_err-left-2 g c = rw c.from_residual-in_err-left-2.ensures (list_passes g.T.Item.spelled c.args.list.now c.loop-item.item-index c.args.budget c.loop-item.left c.item-item.result c.loop-item.invariant c.loop-item-test.true c.item-item.is c.in_err-left-2.ensures)

pub returns : goal.returns
returns g c = list_ends g.T.Item.spelled c.args.list.now c.loop-item.item-index c.args.budget c.loop-item.left c.loop-item.invariant c.loop-item-test.false
