use Rattle.std.proofs.Common.{◌≡◌, ◌++◌, length}
use Rattle.std.specs.List.{flat_map}
use Rattle.sweep_runs.specs.Seconds.{given_again}
use Rattle.sweep_runs.proofs.second.files_again.Given as goal

abbrev pub invariant-loop-file : goal.invariant-loop-file
invariant-loop-file l =
    l.files ++ flat_map (λ f. given_again f.path f.node) l.rest ≡ flat_map (λ f. given_again f.path f.node) l.left

abbrev pub decreases-loop-file : goal.decreases-loop-file
decreases-loop-file l = length l.rest
