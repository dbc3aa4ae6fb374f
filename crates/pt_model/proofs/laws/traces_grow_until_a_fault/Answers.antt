use Rattle.pt_model.proofs.Composition.{traces_grow, faults_are_for_good, taken_is_counted}
use Rattle.pt_model.proofs.laws.traces_grow_until_a_fault.Goals as goal

pub returns-clause-grow : goal.returns-clause-grow
returns-clause-grow c = traces_grow

pub returns-clause-fault : goal.returns-clause-fault
returns-clause-fault c = faults_are_for_good

pub returns-clause-count : goal.returns-clause-count
returns-clause-count c = taken_is_counted
