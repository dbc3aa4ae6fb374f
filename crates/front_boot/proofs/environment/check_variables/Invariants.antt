use Rattle.std.proofs.Common.{◌≡◌, map, take, true}
use Rattle.front_boot.specs.Environment.{are_variables}
use Rattle.front_boot.proofs.environment.check_variables.Given as goal

abbrev pub invariant-loop-word : goal.invariant-loop-word
invariant-loop-word l = are_variables (map (λ word. word.now) (take l.word-index l.words)) ≡ true
