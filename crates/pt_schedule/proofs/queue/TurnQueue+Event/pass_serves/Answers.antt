use Rattle.std.proofs.Common.{sym, ap, ◌∙◌, Some}
use Rattle.pt_schedule.proofs.Heading.{no_event, turn_event}
use Rattle.pt_schedule.proofs.queue.TurnQueue+Event.pass_serves.Goals as goal

pub returns-in-None : goal.returns-in-None
returns-in-None c = no_event c.serves.self (sym c.first.ensures ∙ c.in-None.is) ∙ c.serves.invariant

pub returns-in-Some-Turn : goal.returns-in-Some-Turn
returns-in-Some-Turn c = turn_event c.serves.self c.in-Some-Turn.field-0-0 (sym c.first.ensures ∙ c.in-Some-Turn.is ∙ ap Some c.in-Some-Turn.field-0-is) ∙ c.serves.invariant
