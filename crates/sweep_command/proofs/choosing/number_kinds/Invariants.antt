use Rattle.std.proofs.Common.{◌≡◌, ◌++◌, [], length}
use Rattle.sweep_command.specs.Choosing.{kinds_of, met_after, numbers_of}
use Rattle.sweep_command.proofs.choosing.number_kinds.Given as goal

abbrev pub invariant-loop-case : goal.invariant-loop-case
invariant-loop-case l =
    (l.numbered.numbers.items ++ numbers_of l.numbered.met.items (kinds_of l.left l.others)
    ≡ numbers_of [] (kinds_of l.cases l.sites))
    × (met_after l.numbered.met.items (kinds_of l.left l.others) ≡ met_after [] (kinds_of l.cases l.sites))

abbrev pub decreases-loop-case : goal.decreases-loop-case
decreases-loop-case l = length l.left
