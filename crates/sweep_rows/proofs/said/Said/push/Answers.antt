use Rattle.std.proofs.Common.{ap, sym, ◌∙◌}
use Rattle.sweep_rows.specs.Said.{by_pieces, with_said}
use Rattle.sweep_rows.proofs.Saying.{one_said}
use Rattle.sweep_rows.proofs.said.Said.push.Goals as goal

pub returns-in_ok-add_behind-in-Some : goal.returns-in_ok-add_behind-in-Some
returns-in_ok-add_behind-in-Some c = λ p.
    c.in_ok-add_behind-in-Some.ensures p
    ∙ ap (with_said c.args.piece)
    (sym (one_said c.pop.new.self.items c.in-Some.last p) ∙ ap (λ xs. by_pieces xs p) (sym c.in-Some.ensures.items))
