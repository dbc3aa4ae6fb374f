use Rattle.pt_model.proofs.Apart.{the_held_are_still, the_held_can_be_killed}
use Rattle.pt_model.proofs.laws.the_held_are_still.Goals as goal

pub returns-clause-still : goal.returns-clause-still
returns-clause-still g c = λ m. the_held_are_still m

pub returns-clause-killed : goal.returns-clause-killed
returns-clause-killed g c = λ m. the_held_can_be_killed m
