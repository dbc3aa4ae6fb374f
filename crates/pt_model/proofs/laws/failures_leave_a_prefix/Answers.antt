use Rattle.pt_model.proofs.Owned.{failures_leave_a_prefix}
use Rattle.pt_model.proofs.laws.failures_leave_a_prefix.Goals as goal

pub returns : goal.returns
returns g c = λ m. failures_leave_a_prefix m
