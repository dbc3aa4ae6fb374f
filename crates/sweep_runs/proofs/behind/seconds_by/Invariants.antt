use Rattle.std.proofs.Common.{◌≡◌, ◌++◌, length}
use Rattle.std.specs.List.{flat_map}
use Rattle.sweep_runs.specs.Behind.{second_at}
use Rattle.sweep_runs.proofs.behind.seconds_by.Given as goal

abbrev pub invariant-loop-occurrence : goal.invariant-loop-occurrence
invariant-loop-occurrence l =
    l.cases.items ++ flat_map (second_at l.wanted) l.left ≡ flat_map (second_at l.wanted) l.found

abbrev pub decreases-loop-occurrence : goal.decreases-loop-occurrence
decreases-loop-occurrence l = length l.left
