use Rattle.std.proofs.Common.{length}
use Rattle.lx_abi.proofs.flags.+left_over.Given as goal

abbrev pub decreases-left_over : goal.decreases-left_over
decreases-left_over l = length l.flags.now
