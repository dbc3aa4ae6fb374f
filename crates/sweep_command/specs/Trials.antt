-- The report on runs in which something else happens to a call than that it has an error.
use Rattle.std.specs.Prelude.{◌≡◌, ℕ, List, cond, length, nat_lt}
use Rattle.std.specs.Option.{option_to_list}
use Rattle.sweep_report.specs.Findings.{status_of}
use Rattle.sweep_rows.specs.declared.verdicts.Reached.{Reached}
use Rattle.sweep_trials.specs.Counts.{verdict_of, verdicts_of}
use Rattle.sweep_trials.specs.Rows.{AreTriedRows, IsTriedRow}
use Rattle.sweep_trials.specs.Trials.{IsThat, trials_of}
use Rattle.sweep_trials.specs.declared.rows.TriedRow.{TriedRow}
use Rattle.sweep_words.specs.declared.plan.Plan.{Plan}
use Rattle.sweep_words.specs.declared.show.NamedTrial.{NamedTrial}
use Rattle.sweep_words.specs.declared.trials.Tried.{Tried}

-- the status is that of what happens at each entry into the calls, in the run without it; 5 where there is no entry
pub record IsOfTrials (plan : Plan) (reference : Reached) (tried : Tried) (s : ℕ) : Type 0 where
  pub rows : List TriedRow
  pub made : AreTriedRows plan reference (trials_of tried plan.setup.boot.follow reference.log.items) rows
  pub status_is : s ≡ cond (nat_lt 0 (length rows)) (status_of plan.strict (verdicts_of rows)) 5

-- the status is that of the one which words name
pub record IsOfTrial (plan : Plan) (reference : Reached) (named : NamedTrial) (s : ℕ) : Type 0 where
  pub row : TriedRow
  pub is_that : IsThat named row.made.trial
  pub made : IsTriedRow plan reference row
  pub status_is : s ≡ status_of plan.strict (option_to_list (verdict_of row))
