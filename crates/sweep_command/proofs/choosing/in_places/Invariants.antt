use Rattle.std.proofs.Common.{◌≡◌, ◌++◌, length}
use Rattle.std.specs.List.{flat_map}
use Rattle.sweep_command.specs.Choosing.{case_at}
use Rattle.sweep_command.proofs.choosing.in_places.Given as goal

abbrev pub invariant-loop-place : goal.invariant-loop-place
invariant-loop-place l =
    l.placed.items ++ flat_map (case_at l.cases) l.left ≡ flat_map (case_at l.cases) l.places

abbrev pub decreases-loop-place : goal.decreases-loop-place
decreases-loop-place l = length l.left
