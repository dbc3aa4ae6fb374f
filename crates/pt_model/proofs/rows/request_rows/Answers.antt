use Rattle.pt_model.proofs.Computed.{request_rows}
use Rattle.pt_model.proofs.rows.request_rows.Goals as goal

pub returns : goal.returns
returns c = request_rows
