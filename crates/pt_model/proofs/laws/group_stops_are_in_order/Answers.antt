use Rattle.pt_model.proofs.Halts.{a_stop_comes_of_its_signal, a_stop_ends_first}
use Rattle.pt_model.proofs.laws.group_stops_are_in_order.Goals as goal

pub returns-clause-stop : goal.returns-clause-stop
returns-clause-stop c = a_stop_comes_of_its_signal

pub returns-clause-ends : goal.returns-clause-ends
returns-clause-ends c = a_stop_ends_first
