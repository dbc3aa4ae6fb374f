use Rattle.std.proofs.Common.{[], ◌∷◌, ◌++◌, ap, ◌∙◌}
use Rattle.turn_rows.specs.Cycles.{all_turns}
use Rattle.turn_rows.proofs.Rows.{all_turns-append, not_lengthened}
use Rattle.turn_rows.proofs.turns.push_apart.Goals as goal

pub returns-clause-ok : goal.returns-clause-ok
returns-clause-ok c =
    ap all_turns c.in_ok-push.ensures.items
    ∙ all_turns-append c.lengthen_last.new.rows.items _
    ∙ ap (λ t. t ++ c.args.pid ∷ []) (not_lengthened _ c.lengthen_last.result (all_turns c.args.rows.now.items) c.args.pid c.in_ok-lengthen_last.field-0 (all_turns c.lengthen_last.new.rows.items) c.in_ok-lengthen_last.was c.if-branch.false c.lengthen_last.ensures)
