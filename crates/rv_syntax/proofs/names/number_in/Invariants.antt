use Rattle.std.proofs.Common.{◌≡◌, map, drop}
use Rattle.rv_syntax.specs.Names.{row, number_in}
use Rattle.rv_syntax.proofs.names.number_in.Given as goal

abbrev pub invariant-loop-name : goal.invariant-loop-name
invariant-loop-name l = number_in (map row (drop l.name-index l.names)) l.text ≡ number_in (map row l.names) l.text
