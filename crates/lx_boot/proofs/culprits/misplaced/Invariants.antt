use Rattle.std.proofs.Common.{◌≡◌, drop}
use Rattle.lx_boot.specs.Culprits.{misplaced}
use Rattle.lx_boot.proofs.culprits.misplaced.Given as goal

abbrev pub invariant-loop-at : goal.invariant-loop-at
invariant-loop-at l = misplaced l.files l.at (drop l.at l.files) ≡ misplaced l.files 0 l.files
