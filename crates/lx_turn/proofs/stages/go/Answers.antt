use Rattle.std.proofs.Common.{refl}
use Rattle.lx_turn.proofs.stages.go.Goals as goal

pub returns-in-Entered-clause-turned : goal.returns-in-Entered-clause-turned
returns-in-Entered-clause-turned c = rw (c.requires, c.in-Entered.is, c.chosen_stage.ensures, c.join-in-Entered.ensures, c.join.ensures, c.choice-choice.ensures, c.call-call.ensures) refl
