use Rattle.std.proofs.Common.{map}
use Rattle.tr_expr.specs.Parts.{part_of}
use Rattle.tr_expr.specs.Saids.{IsSaidBy}
use Rattle.tr_expr.proofs.said.said_by.Given as goal

abbrev pub invariant-loop-part : goal.invariant-loop-part
invariant-loop-part l = IsSaidBy (map (part_of l.form) (map (λ x. x.now) l.yielded)) l.said
