use Rattle.pt_model.proofs.Computed.{job_rows}
use Rattle.pt_model.proofs.rows.job_rows.Goals as goal

pub returns : goal.returns
returns c = job_rows
