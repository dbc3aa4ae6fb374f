use Rattle.std.proofs.Common.{◌≡◌, ◌++◌, drop}
use Rattle.trace_words.proofs.copies.copy_numbers.Given as goal

abbrev pub invariant-loop-number : goal.invariant-loop-number
invariant-loop-number l = l.copy ++ drop l.number-index l.numbers ≡ l.fn.numbers
