use Rattle.sweep_orders.proofs.Able.{next_is, none_above}
use Rattle.sweep_orders.proofs.draws.next_above.Goals as goal

pub returns-in_default : goal.returns-in_default
returns-in_default c = λ q l able. c.in_default.ensures q able

pub returns-then-pid-last : goal.returns-then-pid-last
returns-then-pid-last c = next_is c.args.kernel.now c.args.last c.in-Some.pid c.in-Some.ensures c.if-pid-last.true

pub returns-else-pid-last : goal.returns-else-pid-last
returns-else-pid-last c = none_above c.args.kernel.now c.args.last c.in-Some.pid c.in-Some.ensures c.if-pid-last.false
