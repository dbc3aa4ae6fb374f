use Rattle.std.proofs.Common.{ap, ◌∙◌}
use Rattle.sweep_rows.specs.Said.{by_pieces, with_said}
use Rattle.sweep_rows.proofs.Saying.{says_more}
use Rattle.sweep_rows.proofs.said.Said.add.Goals as goal

pub returns : goal.returns
returns c = λ past known says.
    says_more c.args.self.now.pieces.items c.say.new.self.pieces.items past c.args.item.now c.args.known.now
    (λ p. c.in_ok-say.ensures p
    ∙ ap (λ piece. with_said piece (by_pieces c.args.self.now.pieces.items p)) c.piece_of.ensures)
    known says
