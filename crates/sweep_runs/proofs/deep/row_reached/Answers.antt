use Rattle.std.proofs.Common.{◌↔◌, IsTrue, ap, subst, sym, ◌∙◌}
use Rattle.sweep_faults.specs.Words.{HasWords}
use Rattle.sweep_rows.specs.Verdicts.{facts_of, verdict_of}
use Rattle.sweep_runs.specs.Deep.{DeepReaches, deep_of}
use Rattle.sweep_runs.specs.Rows.{fault_of}
use Rattle.sweep_rows.specs.declared.wanted.Case.{Case}
use Rattle.sweep_runs.specs.declared.deep.DeepCase.{DeepCase}
use Rattle.sweep_runs.proofs.deep.row_reached.Goals as goal

-- both cases of a run
abbrev both : Case → Case → DeepCase
both first second = record { first = first; second = second }

pub returns-clause-case : goal.returns-clause-case
returns-clause-case c = ap (both c.args.case.first) c.in_ok-row.ensures.case

pub returns-clause-row : goal.returns-clause-row
returns-clause-row c =
    let row = c.in_ok-row.ensures in
    let reached = c.args.run.reached in
    record {
      reached = reached;
      run =
          subst (λ (k : Case). DeepReaches c.args.setup.now (deep_of (both c.args.case.first k)) reached) (sym row.case)
          c.requires.run;
      compared = record {
        files = row.files;
        verdict =
            row.verdict
            ∙ ap (λ (k : Case). verdict_of (facts_of c.args.reference.now reached c.in_ok-row.row.files.items k.tells))
            (sym row.case);
        word = row.word;
        ended = row.ended;
        streams = row.streams;
        words =
            subst (λ (k : Case). IsTrue c.in_ok-row.row.has_words ↔ HasWords c.args.setup.now.boot.follow (fault_of k) reached.log.items)
            (sym row.case)
            (subst (λ b. IsTrue b ↔ HasWords c.args.setup.now.boot.follow (fault_of c.args.case.second) reached.log.items)
            (sym row.words) c.requires.words);
      };
    }
