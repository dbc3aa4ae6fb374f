use Rattle.std.proofs.Common.{length}
use Rattle.sweep_words.specs.Known.{IsKnown}
use Rattle.sweep_words.proofs.known.is_known.Given as goal

abbrev pub invariant-loop-line : goal.invariant-loop-line
invariant-loop-line l = (IsKnown l.left l.text → IsKnown l.known l.text) × (IsKnown l.known l.text → IsKnown l.left l.text)

abbrev pub decreases-loop-line : goal.decreases-loop-line
decreases-loop-line l = length l.left
