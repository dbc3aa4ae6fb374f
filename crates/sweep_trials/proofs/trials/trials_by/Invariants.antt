use Rattle.std.proofs.Common.{◌≡◌, ◌++◌, length}
use Rattle.std.specs.List.{flat_map}
use Rattle.sweep_trials.specs.Trials.{trials_at}
use Rattle.sweep_trials.proofs.trials.trials_by.Given as goal

abbrev pub invariant-loop-occurrence : goal.invariant-loop-occurrence
invariant-loop-occurrence l = l.trials.items ++ flat_map (trials_at l.deed) l.left ≡ flat_map (trials_at l.deed) l.found

abbrev pub decreases-loop-occurrence : goal.decreases-loop-occurrence
decreases-loop-occurrence l = length l.left
