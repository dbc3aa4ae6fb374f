use Rattle.std.proofs.Common.{◌≡◌, take}
use Rattle.lx_files.specs.Boots.{tree_of}
use Rattle.lx_files.proofs.boots.plant.Given as goal

abbrev pub invariant-loop-file : goal.invariant-loop-file
invariant-loop-file l = l.tree ≡ tree_of (take l.file-index l.files)
