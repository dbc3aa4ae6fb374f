use Rattle.call_laws.proofs.Errors.{sweeps_try_the_rest}
use Rattle.call_laws.proofs.laws.sweeps_try_the_rest.Goals as goal

pub returns : goal.returns
returns c = sweeps_try_the_rest
