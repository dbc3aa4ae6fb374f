use Rattle.std.proofs.Common.{length}
use Rattle.tr_expr.specs.Sets.{pieces}
use Rattle.tr_expr.proofs.Seeking.{GoesOn}
use Rattle.tr_expr.proofs.piece.refused_among.Given as goal

abbrev pub invariant-loop-item : goal.invariant-loop-item
invariant-loop-item l = GoesOn l.kind (pieces 44 l.list) (length l.yielded)
