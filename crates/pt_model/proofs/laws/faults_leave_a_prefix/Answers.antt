use Rattle.pt_model.proofs.Faults.{faults_leave_a_prefix}
use Rattle.pt_model.proofs.laws.faults_leave_a_prefix.Goals as goal

pub returns : goal.returns
returns g c = λ m. faults_leave_a_prefix m
