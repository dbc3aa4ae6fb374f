use Rattle.std.proofs.Common.{◌≡◌, drop}
use Rattle.lx_abi.specs.Limits.{most_contents}
use Rattle.lx_boot.specs.Culprits.{oversized}
use Rattle.lx_boot.proofs.culprits.oversized.Given as goal

abbrev pub invariant-loop-at : goal.invariant-loop-at
invariant-loop-at l = oversized l.room l.at (drop l.at l.files) ≡ oversized most_contents 0 l.files
