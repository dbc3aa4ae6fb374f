use Rattle.front_boot.specs.Files.{StartWith}
use Rattle.front_boot.proofs.directories.add_places.Given as goal

abbrev pub invariant-loop-place : goal.invariant-loop-place
invariant-loop-place g l = StartWith l.files l.fn.files
