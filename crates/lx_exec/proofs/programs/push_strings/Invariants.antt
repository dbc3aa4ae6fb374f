use Rattle.std.proofs.Common.{◌≡◌, ◌++◌, drop}
use Rattle.lx_exec.specs.Programs.{strings}
use Rattle.lx_exec.proofs.programs.push_strings.Given as goal

abbrev pub invariant-loop-word : goal.invariant-loop-word
invariant-loop-word l = l.bytes.items ++ strings (drop l.word-index l.words) ≡ l.fn.bytes.items ++ strings l.words
