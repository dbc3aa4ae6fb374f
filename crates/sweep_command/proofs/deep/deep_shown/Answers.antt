use Rattle.std.proofs.Common.{ap, subst, sym, ◌∙◌}
use Rattle.std.specs.Option.{option_to_list}
use Rattle.sweep_deep.specs.Naming.{IsThat}
use Rattle.sweep_report.specs.Findings.{status_of}
use Rattle.sweep_runs.specs.declared.deep.DeepCase.{DeepCase}
use Rattle.sweep_command.proofs.deep.deep_shown.Goals as goal

pub returns : goal.returns
returns g c = record {
  row = c.in_ok-row.row;
  is_that = subst (λ (d : DeepCase). IsThat c.args.named d) (sym c.in_ok-row.ensures.case) c.in_ok-case.ensures;
  made = c.in_ok-row.ensures.row;
  status_is = c.status_of_one.ensures ∙ ap (λ v. status_of c.args.plan.now.strict (option_to_list v)) c.verdict_of-verdict.ensures;
}
