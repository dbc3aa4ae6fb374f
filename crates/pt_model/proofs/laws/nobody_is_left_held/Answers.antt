use Rattle.pt_model.proofs.Asking.{nobody_is_left_held}
use Rattle.pt_model.proofs.Hands.{statuses_come_to_hand, the_hand_stays, each_is_let_go}
use Rattle.pt_model.proofs.Resumed.{each_is_resumed}
use Rattle.pt_model.proofs.laws.nobody_is_left_held.Goals as goal

pub returns-clause-taken : goal.returns-clause-taken
returns-clause-taken c = statuses_come_to_hand

pub returns-clause-stays : goal.returns-clause-stays
returns-clause-stays c = the_hand_stays

pub returns-clause-free : goal.returns-clause-free
returns-clause-free c = nobody_is_left_held

pub returns-clause-each : goal.returns-clause-each
returns-clause-each c = each_is_let_go

pub returns-clause-resumed : goal.returns-clause-resumed
returns-clause-resumed c = each_is_resumed
