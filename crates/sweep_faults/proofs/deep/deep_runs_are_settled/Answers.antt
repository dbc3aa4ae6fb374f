use Rattle.sweep_faults.proofs.Deeper.{deep_faulted, deep_settled}
use Rattle.sweep_faults.proofs.deep.deep_runs_are_settled.Goals as goal

pub returns-clause-settled : goal.returns-clause-settled
returns-clause-settled c = deep_settled

pub returns-clause-alone : goal.returns-clause-alone
returns-clause-alone c = deep_faulted
