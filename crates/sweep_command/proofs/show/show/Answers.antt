use Rattle.std.proofs.Common.{◌≡◌, true, Option, ap, subst, ◌∙◌}
use Rattle.std.specs.Prelude.{IfSome}
use Rattle.sweep_rows.specs.declared.wanted.Case.{Case}
use Rattle.sweep_deep.specs.Naming.{names}
use Rattle.sweep_command.proofs.show.show.Goals as goal

pub returns : goal.returns
returns g c = record {
  row = c.in_ok-row.row;
  named =
      ap (λ (case : Case). names c.args.run case) c.in_ok-row.ensures.case
      ∙ subst (λ (o : Option Case). IfSome o (λ case. names c.args.run case ≡ true)) c.in-Some.is c.in_ok-case.ensures;
  made = c.in_ok-row.ensures.row;
  status_is = c.status_of.ensures;
}
