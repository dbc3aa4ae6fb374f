use Rattle.std.proofs.Common.{length}
use Rattle.tr_values.proofs.flags.+more_flags.Given as goal

abbrev pub decreases-more_flags : goal.decreases-more_flags
decreases-more_flags l = length l.rows.now
