use Rattle.std.proofs.Common.{◌≡◌, ◌+◌, length}
use Rattle.sweep_command.proofs.choosing.sites_of.Given as goal

abbrev pub invariant-loop-case : goal.invariant-loop-case
invariant-loop-case l = length l.sites.items + length l.left ≡ length l.cases

abbrev pub decreases-loop-case : goal.decreases-loop-case
decreases-loop-case l = length l.left
