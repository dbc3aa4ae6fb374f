use Rattle.std.proofs.Common.{List, false, ap, ap₂, subst, sym, ◌∙◌}
use Rattle.sweep_rows.specs.Verdicts.{facts_of}
use Rattle.sweep_rows.specs.declared.files.FileNote.{FileNote}
use Rattle.sweep_runs.specs.Runs.{FaultReaches}
use Rattle.sweep_runs.specs.Trials.{fault_of, verdict_by}
use Rattle.sweep_runs.specs.declared.trials.Trial.{Trial}
use Rattle.sweep_runs.proofs.trials.row_reached.Goals as goal

pub returns-clause-row : goal.returns-clause-row
returns-clause-row c =
    let row = c.row_of.ensures in
    let reached = c.args.run.reached in
    record {
      reached = reached;
      run = subst (λ (t : Trial). FaultReaches c.args.setup.now (fault_of t) reached) (sym row.trial) c.requires.run;
      files = ap (λ f. f.items) row.files ∙ c.in_ok-files.ensures;
      verdict =
          row.verdict ∙ c.judge-verdict.ensures
          ∙ ap₂ (λ (t : Trial) (notes : List FileNote). verdict_by t.kind (facts_of c.args.reference.now reached notes false))
          (sym row.trial) (c.as_slice.ensures.value ∙ ap (λ f. f.items) (sym row.files));
      word = row.word;
      ended = row.ended;
      streams = row.streams;
    }
