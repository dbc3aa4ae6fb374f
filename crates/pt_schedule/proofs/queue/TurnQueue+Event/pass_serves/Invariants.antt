use Rattle.std.proofs.Common.{◌≡◌, length}
use Rattle.pt_schedule.specs.Turns.{turns_from}
use Rattle.pt_schedule.proofs.queue.TurnQueue+Event.pass_serves.Given as goal

abbrev pub invariant-serves : goal.invariant-serves
invariant-serves l = turns_from l.self ≡ turns_from l.initial.self

abbrev pub decreases-serves : goal.decreases-serves
decreases-serves l = length l.self
