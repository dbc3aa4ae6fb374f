use Rattle.pt_model.proofs.Owned.{talks_are_answers, talks_are_own, out_of_turns_shows_nothing, own_replies_tell}
use Rattle.pt_model.proofs.laws.own_replies_tell.Goals as goal

pub returns-clause-talks : goal.returns-clause-talks
returns-clause-talks g c = λ m. talks_are_own m

pub returns-clause-out_of_turns : goal.returns-clause-out_of_turns
returns-clause-out_of_turns g c = out_of_turns_shows_nothing

pub returns-clause-run : goal.returns-clause-run
returns-clause-run g c = λ m. own_replies_tell m

pub returns-clause-answers : goal.returns-clause-answers
returns-clause-answers g c = λ m. talks_are_answers m
