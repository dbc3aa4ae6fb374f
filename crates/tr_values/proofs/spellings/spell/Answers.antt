use Rattle.std.proofs.Common.{arith}
use Rattle.tr_values.proofs.Spelled.{spelled}
use Rattle.tr_values.proofs.spellings.spell.Goals as goal

pub returns-clause-spelled : goal.returns-clause-spelled
returns-clause-spelled c =
    rw c.row.ensures (spelled c.args.byte c.args.next c.start.result (omega (arith, c.ranges.byte.fits)) c.start.ensures.start).0

pub returns-clause-short : goal.returns-clause-short
returns-clause-short c =
    rw c.row.ensures (spelled c.args.byte c.args.next c.start.result (omega (arith, c.ranges.byte.fits)) c.start.ensures.start).1

pub returns-clause-ascii : goal.returns-clause-ascii
returns-clause-ascii c =
    rw c.row.ensures (spelled c.args.byte c.args.next c.start.result (omega (arith, c.ranges.byte.fits)) c.start.ensures.start).2
