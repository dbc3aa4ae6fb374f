use Rattle.pt_model.proofs.Views.{no_kill_no_loss}
use Rattle.pt_model.proofs.laws.no_kill_no_loss.Goals as goal

pub returns : goal.returns
returns c = no_kill_no_loss
