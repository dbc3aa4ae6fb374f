use Rattle.std.proofs.Common.{ap, ◌∙◌}
use Rattle.sweep_rows.specs.Said.{by_pieces, with_said}
use Rattle.sweep_rows.proofs.Saying.{both_said, one_said}
use Rattle.sweep_rows.proofs.said.Said.add_behind.Goals as goal

pub returns-in_ok-push-in-Some : goal.returns-in_ok-push-in-Some
returns-in_ok-push-in-Some c = λ p.
    let pieces = c.args.self.now.pieces.items in
    ap (λ xs. by_pieces xs p) c.in_ok-push-in-Some.ensures.items
    ∙ one_said pieces c.in-Some.both p
    ∙ both_said c.args.last c.args.piece c.in-Some.both (by_pieces pieces p) c.in-Some.ensures

pub returns-in_ok-push-in-None-2 : goal.returns-in_ok-push-in-None-2
returns-in_ok-push-in-None-2 c = λ p.
    ap (λ xs. by_pieces xs p) c.in_ok-push-in-None-2.ensures.items
    ∙ one_said c.push-in-None.new.self.items c.args.piece p
    ∙ ap (with_said c.args.piece)
    (ap (λ xs. by_pieces xs p) c.in_ok-push-in-None.ensures.items ∙ one_said c.args.self.now.pieces.items c.args.last p)
