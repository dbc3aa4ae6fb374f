use Rattle.std.proofs.Common.{◌≡◌, Some}
use Rattle.std.proofs.Common.{length}
use Rattle.lx_files.specs.Folders.{led, split}
use Rattle.lx_files.proofs.folders.walk.Given as goal

abbrev pub invariant-names : goal.invariant-names
invariant-names l = led l.children (Some l.folder) (split l.rest) ≡ led l.children (Some l.from) (split l.text)

abbrev pub decreases-names : goal.decreases-names
decreases-names l = length l.rest
