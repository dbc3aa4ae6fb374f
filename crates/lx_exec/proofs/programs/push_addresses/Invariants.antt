use Rattle.std.proofs.Common.{◌≡◌, ◌++◌, ◌+◌, drop, length}
use Rattle.lx_exec.specs.Programs.{strings, addresses}
use Rattle.lx_exec.proofs.programs.push_addresses.Given as goal

abbrev pub invariant-loop-word : goal.invariant-loop-word
invariant-loop-word l =
    (l.vector.items ++ addresses l.address (drop l.word-index l.words) ≡ l.fn.vector.items ++ addresses l.start l.words)
    × (l.address + length (strings (drop l.word-index l.words)) ≡ l.start + length (strings l.words))
