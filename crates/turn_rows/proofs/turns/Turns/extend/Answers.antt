use Rattle.std.proofs.Common.{◌++◌, replicate, ap, ◌∙◌}
use Rattle.turn_rows.specs.Cycles.{all_turns}
use Rattle.turn_rows.proofs.Rows.{all_turns-append}
use Rattle.turn_rows.proofs.turns.Turns.extend.Goals as goal

pub returns-clause-ok : goal.returns-clause-ok
returns-clause-ok c =
    ap all_turns c.in_ok-push.ensures.items
    ∙ all_turns-append c.lengthen_run.new.rows.items _
    ∙ ap (λ t. t ++ replicate c.args.turns c.args.pid) (c.if-lengthen_run.ensures ∙ c.self.view_is)
