use Rattle.std.proofs.Common.{ap, subst, ◌∙◌}
use Rattle.std.specs.Prelude.{cond}
use Rattle.sweep_command.specs.Reports.{AreBegun, IsCounted}
use Rattle.sweep_command.proofs.sweeping.failures.Goals as goal

pub returns : goal.returns
returns g c = record {
  cases = c.in_ok-choice.choice.cases.items;
  rows = c.in_ok-rows.rows.items;
  wanted = c.in_ok-choice.ensures;
  made = subst (λ cs. AreBegun c.args.plan.now.strict c.args.plan.now.setup c.args.reference.now c.args.words cs c.in_ok-rows.rows.items)
      c.as_slice-cases.ensures.value c.in_ok-rows.ensures;
  status = c.in_ok-status.status;
  status_is = c.status_if.ensures ∙ ap (λ tries. cond tries c.in_ok-status.status 5) c.in_ok-tries.ensures;
  counted = subst (λ rs. IsCounted c.args.plan.now rs c.in_ok-status.status) c.as_slice-rows.ensures.value c.in_ok-status.ensures;
}
