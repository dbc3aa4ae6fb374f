use Rattle.std.proofs.Common.{◌<◌, ◌≤◌, take, length}
use Rattle.std.specs.FinMap as maps
use Rattle.std.specs.Option.{option_and_then}
use Rattle.std.specs.Prelude.{IsSome}
use Rattle.lx_files.specs.Folders.{at, names_of}
use Rattle.lx_files.proofs.Knowing.{Reached}
use Rattle.lx_files.proofs.folders.known_part.Given as goal

abbrev pub invariant-names : goal.invariant-names
invariant-names l =
    Reached l.children l.folder l.rest l.path
    × (l.known ≤ length l.path)
    × (0 < l.known → IsSome (option_and_then (maps.get l.numbers) (at l.children (names_of (take l.known l.path)))))

abbrev pub decreases-names : goal.decreases-names
decreases-names l = length l.rest
