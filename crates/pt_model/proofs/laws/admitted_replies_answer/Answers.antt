use Rattle.pt_model.proofs.Admission.{admitted_replies_answer}
use Rattle.pt_model.proofs.laws.admitted_replies_answer.Goals as goal

pub returns : goal.returns
returns c = admitted_replies_answer
