-- What came of these runs.
use Rattle.std.specs.Prelude.{◌≡◌, ⊤, List, map, All, Option, Some, None}
use Rattle.sweep_rows.specs.declared.verdicts.Reached.{Reached}
use Rattle.sweep_runs.specs.Runs.{FaultReaches}
use Rattle.sweep_runs.specs.Trials.{fault_of, IsTrialRow}
use Rattle.sweep_rows.specs.declared.setup.Setup.{Setup}
use Rattle.sweep_runs.specs.declared.trials.Trial.{Trial}
use Rattle.sweep_trials.specs.Ends.{EndsOn}
use Rattle.sweep_trials.specs.declared.rows.TriedRow.{TriedRow}
use Rattle.sweep_trials.specs.declared.second.SecondEnd.{SecondEnd}
use Rattle.sweep_words.specs.declared.plan.Plan.{Plan}
use Rattle.sweep_words.specs.declared.trials.Second.{Second}

-- the second program ends so on the files that the trial's run leaves
pub record EndsBehind (setup : Setup) (second : Second) (trial : Trial) (e : SecondEnd) : Type 0 where
  pub run : Reached
  pub left : FaultReaches setup (fault_of trial) run
  pub ends : EndsOn setup second run.ending.outcome.files e

-- .. where there is one
abbrev pub IsSecondEnd : Setup → Option Second → Trial → Option SecondEnd → Type 0
IsSecondEnd setup None trial None = ⊤
IsSecondEnd setup None trial (Some e) = ⊥
IsSecondEnd setup (Some second) trial None = ⊥
IsSecondEnd setup (Some second) trial (Some e) = EndsBehind setup second trial e

-- what came of a trial, and of the second program behind it
pub record IsTriedRow (plan : Plan) (reference : Reached) (row : TriedRow) : Type 0 where
  pub made : IsTrialRow plan.setup reference row.made
  pub second : IsSecondEnd plan.setup plan.second row.made.trial row.second

-- such a row for each of these trials, in their order
pub record AreTriedRows (plan : Plan) (reference : Reached) (trials : List Trial) (rows : List TriedRow) : Type 0 where
  pub trials_are : map (λ r. r.made.trial) rows ≡ trials
  pub each : All (IsTriedRow plan reference) rows
