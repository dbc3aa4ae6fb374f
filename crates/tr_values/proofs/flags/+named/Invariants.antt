use Rattle.std.proofs.Common.{length}
use Rattle.tr_values.proofs.flags.+named.Given as goal

abbrev pub decreases-named : goal.decreases-named
decreases-named l = length l.rows.now
