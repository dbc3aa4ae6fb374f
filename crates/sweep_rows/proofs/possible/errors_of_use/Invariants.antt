use Rattle.std.proofs.Common.{◌≡◌, ◌++◌, length}
use Rattle.std.specs.List.{flat_map}
use Rattle.sweep_rows.specs.Possible.{errors_numbered, by_use}
use Rattle.sweep_rows.proofs.possible.errors_of_use.Given as goal

abbrev pub invariant-loop-number : goal.invariant-loop-number
invariant-loop-number l =
    l.errors.items ++ flat_map errors_numbered l.left ≡ flat_map errors_numbered (by_use l.one.call l.one.used l.one.piped)

abbrev pub decreases-loop-number : goal.decreases-loop-number
decreases-loop-number l = length l.left
