use Rattle.pt_model.proofs.Final.{transparent}
use Rattle.pt_model.proofs.laws.tracing_is_transparent.Goals as goal

pub returns : goal.returns
returns g c = λ m. transparent m
