use Rattle.host_wire.proofs.Gathered.{ReadSoFar}
use Rattle.host_wire.proofs.receiving.receive.Given as goal

abbrev pub invariant-loop : goal.invariant-loop
invariant-loop g l = ReadSoFar (g.R.Source.input l.fn.source) (g.R.Source.input l.source) l.fn.feed l.feed l.counter
