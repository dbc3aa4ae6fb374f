use Rattle.std.proofs.Common.{◌≡◌, length}
use Rattle.sweep_rows.specs.Descriptors.{uses_in}
use Rattle.sweep_rows.specs.Streams.{parted, streams_of}
use Rattle.sweep_rows.proofs.streams.streams_of.Given as goal

abbrev pub invariant-loop-item : goal.invariant-loop-item
invariant-loop-item l =
    parted l.descriptors.at (uses_in l.descriptors) l.streams l.text l.left ≡ streams_of l.log l.console

abbrev pub decreases-loop-item : goal.decreases-loop-item
decreases-loop-item l = length l.left
