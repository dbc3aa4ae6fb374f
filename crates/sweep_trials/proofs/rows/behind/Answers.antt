use Rattle.std.proofs.Common.{List, subst}
use Rattle.lx_abi.specs.declared.outcome.OutcomeFile.{OutcomeFile}
use Rattle.sweep_faults.specs.declared.faults.Fault.{Fault}
use Rattle.sweep_runs.specs.Runs.{FaultReaches}
use Rattle.sweep_trials.specs.Ends.{EndsOn}
use Rattle.sweep_trials.proofs.rows.behind.Goals as goal

pub returns-clause-ends : goal.returns-clause-ends
returns-clause-ends c = record {
  run = c.in_ok-run.run'.reached;
  left = subst (λ (f : Fault). FaultReaches c.args.setup.now f c.in_ok-run.run'.reached) c.fault.ensures c.in_ok-run.ensures.compared.run;
  ends =
      subst (λ (files : List OutcomeFile). EndsOn c.args.setup.now c.args.second.now files c.in_ok-end.end) c.in_ok-left.ensures
      c.in_ok-end.ensures;
}
