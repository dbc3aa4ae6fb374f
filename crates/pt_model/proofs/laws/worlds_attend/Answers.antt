use Rattle.pt_model.proofs.Called.{worlds_attend, worlds_call, runs_append, over_is_for_good, events_of_replies, lists_give_themselves}
use Rattle.pt_model.proofs.laws.worlds_attend.Goals as goal

pub returns-clause-events : goal.returns-clause-events
returns-clause-events g c = λ m. worlds_attend m

pub returns-clause-calls : goal.returns-clause-calls
returns-clause-calls g c = λ m. worlds_call m

pub returns-clause-append : goal.returns-clause-append
returns-clause-append g c = λ m. runs_append m

pub returns-clause-over : goal.returns-clause-over
returns-clause-over g c = λ m. over_is_for_good m

pub returns-clause-used : goal.returns-clause-used
returns-clause-used g c = λ m. events_of_replies m

pub returns-clause-lists : goal.returns-clause-lists
returns-clause-lists g c = λ m. lists_give_themselves m
