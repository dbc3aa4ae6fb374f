use Rattle.std.proofs.Common.{ap, subst, sym, ◌∙◌}
use Rattle.std.specs.Option.{option_to_list}
use Rattle.sweep_report.specs.Findings.{status_of}
use Rattle.sweep_runs.specs.declared.trials.Trial.{Trial}
use Rattle.sweep_trials.specs.Trials.{IsThat}
use Rattle.sweep_command.proofs.show_trial.show_trial.Goals as goal

pub returns : goal.returns
returns g c = record {
  row = c.in_ok-row.row;
  is_that = subst (λ (t : Trial). IsThat c.args.named t) (sym c.in_ok-row.ensures.trial) c.in_ok-trial.ensures;
  made = c.in_ok-row.ensures.row;
  status_is = c.status_of_one.ensures ∙ ap (λ v. status_of c.args.plan.now.strict (option_to_list v)) c.verdict_of-verdict.ensures;
}
