use Rattle.lx_model.proofs.KernelLaws.{first_is_fresh, runs_stay_fresh, pids_are_given_once, pids_rise}
use Rattle.lx_model.proofs.laws.pids_are_given_once.Goals as goal

pub returns-clause-first : goal.returns-clause-first
returns-clause-first g c = λ s. first_is_fresh s

pub returns-clause-fresh : goal.returns-clause-fresh
returns-clause-fresh g c = λ m. runs_stay_fresh m

pub returns-clause-given : goal.returns-clause-given
returns-clause-given g c = λ m. pids_are_given_once m

pub returns-clause-rise : goal.returns-clause-rise
returns-clause-rise g c = λ m. pids_rise m
