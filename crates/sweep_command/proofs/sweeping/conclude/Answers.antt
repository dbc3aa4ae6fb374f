use Rattle.std.proofs.Common.{ap, ◌∙◌}
use Rattle.sweep_report.specs.Tallies.{unmarked}
use Rattle.sweep_report.specs.Findings.{status_of}
use Rattle.sweep_command.proofs.sweeping.conclude.Goals as goal

pub returns : goal.returns
returns g c = record {
  marks = c.in_ok-marks.marks.items;
  are_marks = c.in_ok-marks.ensures.are;
  none_known = c.in_ok-marks.ensures.none;
  status_is = c.in_ok-status.ensures ∙ ap (λ ms. status_of c.args.plan.now.strict (unmarked ms c.args.rows.now)) c.as_slice-marks.ensures.value;
}
