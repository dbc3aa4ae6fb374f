use Rattle.std.proofs.Common.{◌≡◌, ◌+◌, ◌≤◌, length}
use Rattle.sweep_command.specs.Choosing.{place_in}
use Rattle.sweep_command.proofs.choosing.place_in.Given as goal

abbrev pub invariant-loop-one : goal.invariant-loop-one
invariant-loop-one l =
    (l.place + place_in l.left l.kind ≡ place_in l.met l.kind) × (l.place + length l.left ≤ length l.met)

abbrev pub decreases-loop-one : goal.decreases-loop-one
decreases-loop-one l = length l.left
