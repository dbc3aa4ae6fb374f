use Rattle.std.proofs.Common.{[], cond, ap, sym, subst, ◌∙◌}
use Rattle.sweep_faults.specs.declared.faults.Fault.{Fault}
use Rattle.sweep_rows.specs.Summary.{checked}
use Rattle.sweep_rows.specs.Verdicts.{facts_of, verdict_of}
use Rattle.sweep_runs.specs.Runs.{FaultReaches}
use Rattle.sweep_command.specs.Checks.{with_verdict}
use Rattle.sweep_command.proofs.judging.ask.Goals as goal

pub returns : goal.returns
returns g c =
    let made = c.args.row in
    let run = c.in_ok-run.run'.reached in
    let fine = c.in_ok-fine.fine in
    let told = checked fine (verdict_of (facts_of c.args.reference.now run [] made.case.tells)) in
    record {
      fine = fine;
      run = run;
      reached = λ _. subst (λ (f : Fault). FaultReaches c.args.setup.now f run) c.fault_of.ensures c.in_ok-run.ensures.run;
      row_is = c.with_verdict.ensures
          ∙ ap (with_verdict made) (c.judged-verdict.ensures ∙ sym (ap (λ b. cond b told made.verdict) c.requires));
    }
