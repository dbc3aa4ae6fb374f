use Rattle.std.proofs.Common.{◌↔◌, Bool, IsTrue, ap, subst, sym, ◌∙◌}
use Rattle.sweep_faults.specs.Words.{HasWords}
use Rattle.sweep_rows.specs.Verdicts.{facts_of, verdict_of}
use Rattle.sweep_runs.specs.Rows.{fault_of}
use Rattle.sweep_runs.specs.Runs.{FaultReaches}
use Rattle.sweep_rows.specs.declared.wanted.Case.{Case}
use Rattle.sweep_runs.proofs.sweeping.row_reached.Goals as goal

pub returns-clause-row : goal.returns-clause-row
returns-clause-row c =
    let row = c.in_ok-row.ensures in
    let reached = c.args.run.reached in
    let follow = c.args.setup.now.boot.follow in
    record {
      reached = reached;
      run = subst (λ (k : Case). FaultReaches c.args.setup.now (fault_of k) reached) (sym row.case) c.requires.run;
      compared = record {
        files = row.files;
        verdict =
            row.verdict
            ∙ ap (λ (k : Case). verdict_of (facts_of c.args.reference.now reached c.in_ok-row.row.files.items k.tells))
            (sym row.case);
        word = row.word;
        ended = row.ended;
        streams = row.streams;
        words =
            subst (λ (k : Case). IsTrue c.in_ok-row.row.has_words ↔ HasWords follow (fault_of k) reached.log.items) (sym row.case)
            (subst (λ (b : Bool). IsTrue b ↔ HasWords follow (fault_of c.args.case) reached.log.items) (sym row.words) c.requires.words);
      };
    }
