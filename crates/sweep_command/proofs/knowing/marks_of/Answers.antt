use Rattle.std.proofs.Common.{Bool, List, sym, ap, subst, ◌∙◌}
use Rattle.std.specs.Prelude.{◌==◌}
use Rattle.sweep_command.specs.Reports.{AreMarks}
use Rattle.sweep_command.proofs.Marking.{emptied, no_marks}
use Rattle.sweep_command.proofs.knowing.marks_of.Goals as goal

pub returns-then-is_empty-clause-are : goal.returns-then-is_empty-clause-are
returns-then-is_empty-clause-are c =
    let known = c.args.plan.now.known in
    subst (λ (marks : List Bool). AreMarks c.args.plan.now.strict known.items c.args.rows.now marks) (sym c.new.ensures.items)
    (no_marks c.args.plan.now.strict known.items c.args.rows.now
    (emptied known.items (c.is_empty.ensures ∙ ap (λ n. n == 0) known.ok.0) c.if-is_empty.true))
