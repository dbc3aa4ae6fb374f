use Rattle.std.proofs.Common.{arith}
use Rattle.tr_values.proofs.Spelled.{start_is, start_within}
use Rattle.tr_values.proofs.spellings.start.Goals as goal

pub returns-clause-start : goal.returns-clause-start
returns-clause-start c = rw c.entry.ensures (start_is c.args.next (omega (arith, c.ranges.next.fits)))

pub returns-clause-within : goal.returns-clause-within
returns-clause-within c = rw c.entry.ensures (start_within c.args.next (omega (arith, c.ranges.next.fits)))
