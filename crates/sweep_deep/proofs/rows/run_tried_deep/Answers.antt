use Rattle.std.proofs.Common.{subst, sym}
use Rattle.sweep_runs.specs.declared.deep.DeepCase.{DeepCase}
use Rattle.sweep_deep.specs.Rows.{IsSecondEnd}
use Rattle.sweep_deep.proofs.rows.run_tried_deep.Goals as goal

pub returns-clause-row : goal.returns-clause-row
returns-clause-row c = record {
  made = c.in_ok-made.ensures.row;
  second =
      subst (λ (d : DeepCase). IsSecondEnd c.args.plan.now.setup c.args.plan.now.second d c.in_ok-second.second)
      (sym c.in_ok-made.ensures.case) c.in_ok-second.ensures;
}
