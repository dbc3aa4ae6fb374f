use Rattle.std.proofs.Common.{◌≡◌, ◌++◌, length}
use Rattle.sweep_command.specs.Naming.{only_named}
use Rattle.sweep_command.proofs.naming.only_named.Given as goal

abbrev pub invariant-loop-case : goal.invariant-loop-case
invariant-loop-case l = l.kept.items ++ only_named l.named l.left ≡ only_named l.named l.cases

abbrev pub decreases-loop-case : goal.decreases-loop-case
decreases-loop-case l = length l.left
