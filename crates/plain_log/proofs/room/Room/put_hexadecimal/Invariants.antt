use Rattle.std.proofs.Common.{◌≡◌, ◌≤◌, ◌+◌}
use Rattle.plain_log.proofs.Hexadecimal.{Puts}
use Rattle.plain_log.proofs.room.Room.put_hexadecimal.Given as goal

abbrev pub invariant-loop : goal.invariant-loop
invariant-loop l = Puts l.fn.number l.counter l.left l.fn.self.text l.self.text × ((l.self.room + l.counter ≡ l.fn.self.room) × (l.counter ≤ 16))
