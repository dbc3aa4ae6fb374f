use Rattle.std.proofs.Common.{◌≡◌}
use Rattle.std.proofs.Common.{ℕ, List, length, true}
use Rattle.lx_files.specs.Folders.{stands, IsTree, Keeps, Stays, Entered}
use Rattle.lx_files.proofs.folders.enter_path.Given as goal

abbrev pub invariant-names : goal.invariant-names
invariant-names l =
    IsTree l.folders.children l.folders.standings l.folders.full_below
    × Keeps l.fn.folders.standings l.folders.standings
    × (stands l.folders.standings l.folder ≡ true)
    × Stays l.fn.folders.children l.folders.children
    × ((path : List ℕ) → Entered l.fn.folders.children l.fn.start l.fn.text path → Entered l.folders.children l.folder l.rest path)

abbrev pub decreases-names : goal.decreases-names
decreases-names l = length l.rest
