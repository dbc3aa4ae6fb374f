use Rattle.std.proofs.Common.{◌≡◌, length}
use Rattle.sweep_runs.specs.Behind.{behind}
use Rattle.sweep_runs.proofs.behind.behind.Given as goal

abbrev pub invariant-loop-occurrence : goal.invariant-loop-occurrence
invariant-loop-occurrence l = behind l.place l.left ≡ behind l.place l.found

abbrev pub decreases-loop-occurrence : goal.decreases-loop-occurrence
decreases-loop-occurrence l = length l.left
