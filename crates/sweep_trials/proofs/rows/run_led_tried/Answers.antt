use Rattle.std.proofs.Common.{subst, sym}
use Rattle.sweep_runs.specs.declared.trials.Trial.{Trial}
use Rattle.sweep_trials.specs.Rows.{IsSecondEnd}
use Rattle.sweep_trials.proofs.rows.run_led_tried.Goals as goal

pub returns-clause-row : goal.returns-clause-row
returns-clause-row c = record {
  made = c.in_ok-made.ensures.row;
  second =
      subst (λ (t : Trial). IsSecondEnd c.args.plan.now.setup c.args.plan.now.second t c.in_ok-second.second)
      (sym c.in_ok-made.ensures.trial) c.in_ok-second.ensures.ends;
}
