use Rattle.pt_model.proofs.Endings.{whole_is_told, out_of_turns_is_told}
use Rattle.pt_model.proofs.laws.ends_are_told.Goals as goal

pub returns-clause-whole : goal.returns-clause-whole
returns-clause-whole c = whole_is_told

pub returns-clause-out_of_turns : goal.returns-clause-out_of_turns
returns-clause-out_of_turns c = out_of_turns_is_told
