use Rattle.std.proofs.Common.{◌≡◌, ◌++◌, length}
use Rattle.std.specs.List.{flat_map}
use Rattle.sweep_report.specs.Tallies.{kind_of, all_verdicts}
use Rattle.sweep_report.proofs.tally.kinds_with.Given as goal

abbrev pub invariant-loop-verdict : goal.invariant-loop-verdict
invariant-loop-verdict l =
    l.kinds.items ++ flat_map (kind_of l.always l.verdicts) l.left ≡ flat_map (kind_of l.always l.verdicts) all_verdicts

abbrev pub decreases-loop-verdict : goal.decreases-loop-verdict
decreases-loop-verdict l = length l.left
