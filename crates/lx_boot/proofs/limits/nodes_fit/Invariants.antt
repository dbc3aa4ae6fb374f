use Rattle.std.proofs.Common.{◌≡◌, ◌+◌, length}
use Rattle.lx_boot.specs.Limits.{nodes}
use Rattle.lx_boot.proofs.limits.nodes_fit.Given as goal

abbrev pub invariant-loop-file : goal.invariant-loop-file
invariant-loop-file l = nodes l.files + l.left ≡ nodes l.uncounted + 4095

abbrev pub decreases-loop-file : goal.decreases-loop-file
decreases-loop-file l = length l.uncounted
