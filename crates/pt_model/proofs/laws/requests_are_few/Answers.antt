use Rattle.pt_model.proofs.Counting.{few_requests}
use Rattle.pt_model.proofs.laws.requests_are_few.Goals as goal

pub returns : goal.returns
returns c = few_requests
