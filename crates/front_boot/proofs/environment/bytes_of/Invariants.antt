use Rattle.std.proofs.Common.{◌≡◌, map, take}
use Rattle.front_boot.proofs.environment.bytes_of.Given as goal

abbrev pub invariant-loop-word : goal.invariant-loop-word
invariant-loop-word l = l.bytes ≡ map (λ word. word.now) (take l.word-index l.words)
