use Rattle.std.proofs.Common.{map, take, string_bytes}
use Rattle.front_end.proofs.Spoken.{Said}
use Rattle.front_end.proofs.expressions.parse_expressions.Given as goal

abbrev pub invariant-loop-word : goal.invariant-loop-word
invariant-loop-word l = Said (map string_bytes (take l.word-index l.words)) l.asked.shown l.asked.rules.items
