use Rattle.std.proofs.Common.{◌≡◌, List, ap, subst, ◌∙◌}
use Rattle.std.specs.Prelude.{cond, length, nat_lt}
use Rattle.sweep_report.specs.Findings.{status_of}
use Rattle.sweep_trials.specs.Counts.{verdicts_of}
use Rattle.sweep_trials.specs.declared.rows.TriedRow.{TriedRow}
use Rattle.sweep_command.proofs.trials.trials_reported.Goals as goal

pub returns : goal.returns
returns g c = record {
  rows = c.in_ok-rows.rows.items;
  made = c.in_ok-rows.ensures;
  status_is =
      subst (λ (rs : List TriedRow). c.status_if.result ≡ cond (nat_lt 0 (length rs)) (status_of c.args.plan.now.strict (verdicts_of rs)) 5)
      c.as_slice-rows.ensures.value
      (c.status_if.ensures
      ∙ (ap (λ tries. cond tries c.in_ok-status.status 5) c.is_some.ensures
      ∙ ap (λ s. cond (nat_lt 0 (length c.as_slice-rows.result.now)) s 5) c.in_ok-status.ensures));
}
