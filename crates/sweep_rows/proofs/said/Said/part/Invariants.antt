use Rattle.std.proofs.Common.{◌≡◌, length}
use Rattle.sweep_rows.specs.Said.{by_pieces, unsaid}
use Rattle.sweep_rows.proofs.said.Said.part.Given as goal

abbrev pub invariant-loop-piece : goal.invariant-loop-piece
invariant-loop-piece l =
    (by_pieces l.left (record { streams = l.streams; text = l.text })).streams
    ≡ (by_pieces l.self.pieces.items (unsaid l.console)).streams

abbrev pub decreases-loop-piece : goal.decreases-loop-piece
decreases-loop-piece l = length l.left
