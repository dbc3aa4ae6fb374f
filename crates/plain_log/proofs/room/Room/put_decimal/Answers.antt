use Rattle.std.proofs.Common.{arith, ap, ◌≡◌, ◌≤◌, length, decimal}
use Rattle.std.proofs.lemmas.Fmt.{length-decimal-le}
use Rattle.plain_log.specs.Rooms.{Placed}
use Rattle.plain_log.proofs.room.Room.put_decimal.Goals as goal

pub write_digits-self-inside-requires : goal.write_digits-self-inside-requires
write_digits-self-inside-requires c =
    let few : length (decimal c.args.number) ≤ 20 = length-decimal-le 20 c.args.number (omega arith) (omega (arith, c.ranges)) (omega (arith, c.ranges)) in
    let start : c.self.inside.start ≡ c.args.self.now.room = ap (λ (v : Placed). v.room) c.self.view_is in
    (omega (arith, few, c.requires, start), omega (arith, c.self.invariant, c.self.ranges))

pub returns-clause-room : goal.returns-clause-room
returns-clause-room c =
    let few : length (decimal c.args.number) ≤ 20 = length-decimal-le 20 c.args.number (omega arith) (omega (arith, c.ranges)) (omega (arith, c.ranges)) in
    let start : c.self.inside.start ≡ c.args.self.now.room = ap (λ (v : Placed). v.room) c.self.view_is in
    omega (arith, few, c.write_digits-self-inside.ensures.start, start)
