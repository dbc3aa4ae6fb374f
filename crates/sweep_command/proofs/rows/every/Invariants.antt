use Rattle.std.proofs.Common.{◌≡◌, ◌++◌, length}
use Rattle.sweep_command.specs.Reports.{every}
use Rattle.sweep_command.proofs.rows.every.Given as goal

abbrev pub invariant-loop-case : goal.invariant-loop-case
invariant-loop-case l =
    l.part.items ++ every l.shard.between l.wait l.left ≡ every l.shard.between l.shard.before l.cases

abbrev pub decreases-loop-case : goal.decreases-loop-case
decreases-loop-case l = length l.left
