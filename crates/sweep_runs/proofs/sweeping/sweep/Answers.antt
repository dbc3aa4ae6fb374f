use Rattle.sweep_runs.proofs.sweeping.sweep.Goals as goal

pub returns-clause-report : goal.returns-clause-report
returns-clause-report g c = record {
  reference = c.in_ok-reference.ensures.reference;
  rows = c.in_ok-rows.ensures;
}
