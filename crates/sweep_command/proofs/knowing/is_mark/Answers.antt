use Rattle.std.proofs.Common.{ap, ◌∙◌}
use Rattle.std.specs.Prelude.{◌==◌}
use Rattle.sweep_command.proofs.Marking.{emptied, none_known}
use Rattle.sweep_command.proofs.knowing.is_mark.Goals as goal

pub returns-then-is_empty : goal.returns-then-is_empty
returns-then-is_empty c =
    let known = c.args.plan.now.known in
    none_known c.args.plan.now.strict known.items c.args.row.now
    (emptied known.items (c.is_empty.ensures ∙ ap (λ n. n == 0) known.ok.0) c.if-is_empty.true)
