use Rattle.std.proofs.Common.{sym, ap, ◌∙◌, Some}
use Rattle.pt_schedule.proofs.Heading.{no_word, turn_word, alone_word, return_word}
use Rattle.pt_schedule.proofs.queue.TurnQueue+Word.pass_serves.Goals as goal

pub returns-in-None : goal.returns-in-None
returns-in-None c = no_word c.serves.self (sym c.first.ensures ∙ c.in-None.is) ∙ c.serves.invariant

pub returns-in-Some-Turn : goal.returns-in-Some-Turn
returns-in-Some-Turn c = turn_word c.serves.self c.in-Some-Turn.field-0-0 (sym c.first.ensures ∙ c.in-Some-Turn.is ∙ ap Some c.in-Some-Turn.field-0-is) ∙ c.serves.invariant

pub returns-in-Some-TurnAlone : goal.returns-in-Some-TurnAlone
returns-in-Some-TurnAlone c = alone_word c.serves.self c.in-Some-TurnAlone.field-0-0 (sym c.first.ensures ∙ c.in-Some-TurnAlone.is ∙ ap Some c.in-Some-TurnAlone.field-0-is) ∙ c.serves.invariant

pub returns-in-Some-UntilReturn : goal.returns-in-Some-UntilReturn
returns-in-Some-UntilReturn c = return_word c.serves.self c.in-Some-UntilReturn.field-0-0 (sym c.first.ensures ∙ c.in-Some-UntilReturn.is ∙ ap Some c.in-Some-UntilReturn.field-0-is) ∙ c.serves.invariant
