use Rattle.pt_model.proofs.Computed.{mode_rows}
use Rattle.pt_model.proofs.rows.mode_rows.Goals as goal

pub returns : goal.returns
returns c = mode_rows
