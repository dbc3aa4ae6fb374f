use Rattle.std.proofs.Common.{◌≤◌, ◌<◌, ◌-◌, ℕ, length}
use Rattle.std.proofs.Common.{get_or}
use Rattle.sweep_orders.specs.Found.{IsSame}
use Rattle.sweep_orders.specs.declared.found.Found.{Found}
use Rattle.sweep_orders.proofs.found.place_of.Given as goal

abbrev pub invariant-loop-place : goal.invariant-loop-place
invariant-loop-place l =
    (l.place ≤ length l.found)
    × ((k : ℕ) (d : Found) → k < l.place → IsSame (get_or l.found k d).ending l.ending → ⊥)

abbrev pub decreases-loop-place : goal.decreases-loop-place
decreases-loop-place l = length l.found - l.place
