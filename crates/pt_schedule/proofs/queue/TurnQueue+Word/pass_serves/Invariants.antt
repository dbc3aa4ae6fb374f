use Rattle.std.proofs.Common.{◌≡◌, length}
use Rattle.pt_schedule.specs.Turns.{from_turn}
use Rattle.pt_schedule.proofs.queue.TurnQueue+Word.pass_serves.Given as goal

abbrev pub invariant-serves : goal.invariant-serves
invariant-serves l = from_turn l.self ≡ from_turn l.initial.self

abbrev pub decreases-serves : goal.decreases-serves
decreases-serves l = length l.self
