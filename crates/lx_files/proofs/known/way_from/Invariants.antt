use Rattle.std.proofs.Common.{◌≡◌, Some, length}
use Rattle.lx_files.specs.Folders.{at, names_of}
use Rattle.lx_files.proofs.known.way_from.Given as goal

abbrev pub invariant-up : goal.invariant-up
invariant-up l = at l.folders.children (names_of l.over) ≡ Some l.folder

abbrev pub decreases-up : goal.decreases-up
decreases-up l = length l.over
