use Rattle.turn_orders.proofs.Each.{each_once}
use Rattle.turn_orders.proofs.laws.each_once.Goals as goal

pub returns : goal.returns
returns c = each_once
