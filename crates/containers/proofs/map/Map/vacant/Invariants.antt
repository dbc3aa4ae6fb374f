use Rattle.containers.specs.Vacant.{IsFullBelow}
use Rattle.containers.proofs.map.Map.vacant.Given as goal

abbrev pub invariant-loop-number : goal.invariant-loop-number
invariant-loop-number g l = IsFullBelow l.self l.number
