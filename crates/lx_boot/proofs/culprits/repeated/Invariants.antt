use Rattle.std.proofs.Common.{◌≡◌, drop}
use Rattle.lx_boot.specs.Culprits.{repeated}
use Rattle.lx_boot.proofs.culprits.repeated.Given as goal

abbrev pub invariant-loop-at : goal.invariant-loop-at
invariant-loop-at l = repeated l.files l.at (drop l.at l.files) ≡ repeated l.files 0 l.files
