use Rattle.std.proofs.Common.{◌≡◌, drop}
use Rattle.rv_syntax.specs.Operands.{numbers_of}
use Rattle.rv_syntax.specs.Text.{texts}
use Rattle.rv_syntax.proofs.NumberSteps.{with_front}
use Rattle.rv_syntax.proofs.statement.numbers.Given as goal

abbrev pub invariant-loop-piece : goal.invariant-loop-piece
invariant-loop-piece l = with_front l.numbers.items (numbers_of (texts (drop l.piece-index l.pieces))) ≡ numbers_of (texts l.pieces)
