use Rattle.std.proofs.Common.{◌≡◌, List, ap, subst, ◌∙◌}
use Rattle.std.specs.Prelude.{cond}
use Rattle.std.specs.List.{list_any}
use Rattle.sweep_command.specs.Deep.{has_runs}
use Rattle.sweep_deep.specs.Counts.{verdicts_of}
use Rattle.sweep_deep.specs.declared.rows.Behind.{Behind}
use Rattle.sweep_report.specs.Findings.{status_of}
use Rattle.sweep_command.proofs.deep.deep_reported.Goals as goal

pub returns : goal.returns
returns g c = record {
  all = c.in_ok-all.all.items;
  made = c.in_ok-all.ensures;
  status_is =
      subst (λ (bs : List Behind). c.status_if.result ≡ cond (list_any has_runs bs) (status_of c.args.plan.now.strict (verdicts_of bs)) 5)
      c.as_slice-all.ensures.value
      (c.status_if.ensures
      ∙ (ap (λ tries. cond tries c.in_ok-status.status 5) c.tries_some.ensures
      ∙ ap (λ s. cond (list_any has_runs c.as_slice-all.result.now) s 5) c.in_ok-status.ensures));
}
