use Rattle.lx_turn.proofs.CallsFit.{calls_fit, takes_fit}
use Rattle.lx_turn.proofs.laws.calls_fit.Goals as goal

pub returns-clause-calls : goal.returns-clause-calls
returns-clause-calls c = calls_fit

pub returns-clause-signals : goal.returns-clause-signals
returns-clause-signals c = takes_fit
