use Rattle.std.proofs.Common.{arith}
use Rattle.std.proofs.lemmas.List.{drop_all}
use Rattle.plain_log.proofs.room.Room.clear.Goals as goal

pub returns-clause-text : goal.returns-clause-text
returns-clause-text c = drop_all 256 c.self.inside.bytes (omega (arith, c.self.ranges))
