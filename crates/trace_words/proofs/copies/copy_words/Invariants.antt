use Rattle.std.proofs.Common.{◌≡◌, ◌++◌, drop}
use Rattle.trace_words.proofs.copies.copy_words.Given as goal

abbrev pub invariant-loop-word : goal.invariant-loop-word
invariant-loop-word l = l.copy.items ++ drop l.word-index l.words ≡ l.fn.words
