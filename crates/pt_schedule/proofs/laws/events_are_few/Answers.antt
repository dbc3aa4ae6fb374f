use Rattle.pt_schedule.proofs.Few.{few, first_left, lists}
use Rattle.pt_schedule.proofs.laws.events_are_few.Goals as goal

pub returns-clause-few : goal.returns-clause-few
returns-clause-few c = few

pub returns-clause-first : goal.returns-clause-first
returns-clause-first c = first_left

pub returns-clause-lists : goal.returns-clause-lists
returns-clause-lists c = lists
