use Rattle.std.proofs.Common.{length}
use Rattle.tr_args.proofs.progress.+row_on.Given as goal

abbrev pub decreases-row_on : goal.decreases-row_on
decreases-row_on l = length l.row.now.kinds.now
