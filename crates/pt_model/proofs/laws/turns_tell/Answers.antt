use Rattle.pt_model.proofs.Hosts.{turns_tell, hosts_are_ready, hosts_are_able}
use Rattle.pt_model.proofs.laws.turns_tell.Goals as goal

pub returns-clause-stop : goal.returns-clause-stop
returns-clause-stop g c = λ m. turns_tell m

pub returns-clause-ready : goal.returns-clause-ready
returns-clause-ready g c = λ m. hosts_are_ready m

pub returns-clause-able : goal.returns-clause-able
returns-clause-able g c = λ m. hosts_are_able m
