use Rattle.std.proofs.Common.{◌≡◌, ◌++◌, drop}
use Rattle.lx_exec.specs.Programs.{doublewords}
use Rattle.lx_exec.proofs.programs.doublewords.Given as goal

abbrev pub invariant-loop-number : goal.invariant-loop-number
invariant-loop-number l = l.bytes.items ++ doublewords (drop l.number-index l.numbers) ≡ doublewords l.numbers
