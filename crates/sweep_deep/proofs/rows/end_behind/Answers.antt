use Rattle.std.proofs.Common.{List, subst}
use Rattle.lx_abi.specs.declared.outcome.OutcomeFile.{OutcomeFile}
use Rattle.sweep_trials.specs.Ends.{EndsOn}
use Rattle.sweep_deep.proofs.rows.end_behind.Goals as goal

pub returns : goal.returns
returns c = record {
  run = c.in_ok-compared.compared.reached;
  left = c.in_ok-compared.ensures.run;
  ends =
      subst (λ (files : List OutcomeFile). EndsOn c.args.setup.now c.args.second.now files c.in_ok-end.end) c.in_ok-left.ensures
      c.in_ok-end.ensures;
}
