use Rattle.std.proofs.Common.{◌-◌}
use Rattle.lx_files.proofs.Flattening.{IsListed}
use Rattle.lx_files.proofs.flat.flatten.Given as goal

abbrev pub invariant-folders : goal.invariant-folders
invariant-folders l = IsListed l.folders.children l.numbers l.flat l.folder

abbrev pub decreases-folders : goal.decreases-folders
decreases-folders l = 4294967295 - l.folder
