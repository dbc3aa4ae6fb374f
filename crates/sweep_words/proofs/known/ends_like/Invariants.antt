use Rattle.std.proofs.Common.{length}
use denote.Shadow.{shadow}
use denote.Text.{Utf8}
use Rattle.sweep_words.specs.Known.{star, IsLike}
use Rattle.sweep_words.proofs.known.ends_like.Given as goal

abbrev pub invariant-loop-piece : goal.invariant-loop-piece
invariant-loop-piece l =
    shadow (Utf8 l.left) × shadow (Utf8 l.others) × (IsLike l.left (star l.others) → IsLike l.text (star l.pattern))
    × (IsLike l.text (star l.pattern) → IsLike l.left (star l.others))

abbrev pub decreases-loop-piece : goal.decreases-loop-piece
decreases-loop-piece l = length l.others
