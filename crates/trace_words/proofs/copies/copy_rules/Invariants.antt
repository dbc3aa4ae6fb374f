use Rattle.std.proofs.Common.{◌≡◌, ◌++◌, drop}
use Rattle.trace_words.proofs.copies.copy_rules.Given as goal

abbrev pub invariant-loop-rule : goal.invariant-loop-rule
invariant-loop-rule l = l.copy.items ++ drop l.rule-index l.rules ≡ l.fn.rules
