use Rattle.std.proofs.Common.{List, ap, subst, ◌∙◌}
use Rattle.sweep_words.specs.declared.cases.NamedCase.{NamedCase}
use Rattle.sweep_command.specs.Reports.{AreOfSweeps, cases_status}
use Rattle.sweep_command.proofs.cases.sweep_cases.Goals as goal

pub returns : goal.returns
returns g c = record {
  cases = c.in_ok-cases.cases.items;
  each = c.in_ok-statuses.statuses.items;
  are = subst (λ (cs : List NamedCase). AreOfSweeps cs c.in_ok-statuses.statuses.items) c.as_slice-all.ensures.value
      c.in_ok-statuses.ensures;
  status_is = c.status_of.ensures ∙ ap cases_status c.as_slice-statuses.ensures.value;
}
