use Rattle.pt_model.proofs.Hands.{unread_calls_have_no_exit}
use Rattle.pt_model.proofs.laws.unread_calls_have_no_exit.Goals as goal

pub returns : goal.returns
returns c = unread_calls_have_no_exit
