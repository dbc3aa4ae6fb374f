use Rattle.std.proofs.Common.{map}
use Rattle.tr_expr.specs.Picks.{IsPicked}
use Rattle.tr_expr.proofs.set.picked_of.Given as goal

abbrev pub invariant-loop-item : goal.invariant-loop-item
invariant-loop-item l = IsPicked (map (λ x. x.now) l.yielded) l.picked.fault l.picked.every l.picked.numbers.items
