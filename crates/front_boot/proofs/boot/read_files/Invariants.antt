use Rattle.std.proofs.Common.{map, take}
use Rattle.front_boot.specs.Files.{NoneBehind, StartWith}
use Rattle.front_boot.proofs.boot.read_files.Given as goal

abbrev pub invariant-loop-word : goal.invariant-loop-word
invariant-loop-word g l =
    StartWith l.files l.initial.files
    × NoneBehind (map (λ word. word.now) (take l.word-index l.directories)) l.files l.initial.files
