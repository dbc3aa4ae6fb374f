use Rattle.std.proofs.Common.{◌≡◌, length}
use Rattle.lx_boot.specs.Boots.{has_duplicate}
use Rattle.lx_boot.proofs.boots.repeats.Given as goal

abbrev pub invariant-loop-file : goal.invariant-loop-file
invariant-loop-file l = has_duplicate l.files ≡ has_duplicate l.left

abbrev pub decreases-loop-file : goal.decreases-loop-file
decreases-loop-file l = length l.left
