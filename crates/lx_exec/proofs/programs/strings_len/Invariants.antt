use Rattle.std.proofs.Common.{◌≡◌, ◌+◌, drop, length}
use Rattle.lx_exec.specs.Programs.{strings}
use Rattle.lx_exec.proofs.programs.strings_len.Given as goal

abbrev pub invariant-loop-word : goal.invariant-loop-word
invariant-loop-word l = l.len + length (strings (drop l.word-index l.words)) ≡ length (strings l.words)
