-- What came of the runs in which a call fails behind another that fails.
use Rattle.std.specs.Prelude.{◌≡◌, ⊤, Bool, true, false, List, [], map, All, Option, Some, None}
use Rattle.lx_abi.specs.declared.log.Item.{Item}
use Rattle.sweep_faults.specs.Led.{place_of}
use Rattle.sweep_rows.specs.declared.verdicts.Reached.{Reached}
use Rattle.sweep_runs.specs.Behind.{is_borne, seconds_of}
use Rattle.sweep_runs.specs.Deep.{case_in, deep_of, DeepReaches, FailingLogs, IsDeepRow}
use Rattle.sweep_runs.specs.Rows.{fault_of, IsRow}
use Rattle.sweep_rows.specs.declared.wanted.Case.{Case}
use Rattle.sweep_rows.specs.declared.wanted.Wanted.{Wanted}
use Rattle.sweep_runs.specs.declared.deep.DeepCase.{DeepCase}
use Rattle.sweep_rows.specs.declared.setup.Setup.{Setup}
use Rattle.sweep_rows.specs.declared.row.Row.{Row}
use Rattle.sweep_trials.specs.Ends.{EndsOn}
use Rattle.sweep_trials.specs.declared.second.SecondEnd.{SecondEnd}
use Rattle.sweep_words.specs.declared.plan.Plan.{Plan}
use Rattle.sweep_words.specs.declared.trials.Second.{Second}
use Rattle.sweep_deep.specs.declared.rows.Behind.{Behind}
use Rattle.sweep_deep.specs.declared.rows.TriedDeep.{TriedDeep}

-- the second program ends so on the files that the run leaves
pub record EndsBehind (setup : Setup) (second : Second) (case : DeepCase) (e : SecondEnd) : Type 0 where
  pub run : Reached
  pub left : DeepReaches setup (deep_of case) run
  pub ends : EndsOn setup second run.ending.outcome.files e

-- .. where there is one
abbrev pub IsSecondEnd : Setup → Option Second → DeepCase → Option SecondEnd → Type 0
IsSecondEnd setup None case None = ⊤
IsSecondEnd setup None case (Some e) = ⊥
IsSecondEnd setup (Some second) case None = ⊥
IsSecondEnd setup (Some second) case (Some e) = EndsBehind setup second case e

-- what came of a run in which both calls fail, and of the second program behind it
pub record IsTriedDeep (plan : Plan) (reference : Reached) (row : TriedDeep) : Type 0 where
  pub made : IsDeepRow plan.setup reference row.made
  pub second : IsSecondEnd plan.setup plan.second (case_in row.made) row.second

abbrev pub pair : Case → Case → DeepCase
pair first second = record { first = first; second = second }

-- such a row for each of these calls behind the first, in their order
pub record AreTriedDeep (plan : Plan) (reference : Reached) (first : Case) (seconds : List Case)
    (rows : List TriedDeep) : Type 0 where
  pub cases_are : map (λ r. case_in r.made) rows ≡ map (pair first) seconds
  pub each : All (IsTriedDeep plan reference) rows

-- these calls are those that the run with a failure has behind it
pub record AreLogged (setup : Setup) (wanted : Wanted) (first : Case) (seconds : List Case) : Type 0 where
  pub log : List Item
  pub run : FailingLogs setup (fault_of first) log
  pub all : seconds ≡ seconds_of wanted setup.boot.follow (place_of (fault_of first)) log

-- they fail behind it, where the program has borne it
abbrev pub SecondsBy : Bool → Setup → Wanted → Case → List Case → Type 0
SecondsBy true setup wanted first seconds = AreLogged setup wanted first seconds
SecondsBy false setup wanted first seconds = seconds ≡ []

abbrev pub AreSeconds : Setup → Wanted → Row → List Case → Type 0
AreSeconds setup wanted first seconds = SecondsBy (is_borne first.verdict) setup wanted first.case seconds

-- what came of a failure, and of those behind it
pub record IsBehind (plan : Plan) (reference : Reached) (wanted : Wanted) (b : Behind) : Type 0 where
  pub first : IsRow plan.setup reference b.first
  pub seconds : List Case
  pub are_seconds : AreSeconds plan.setup wanted b.first seconds
  pub rows : AreTriedDeep plan reference b.first.case seconds b.rows.items

-- .. of each of these failures, in their order
pub record AreBehind (plan : Plan) (reference : Reached) (wanted : Wanted) (cases : List Case) (all : List Behind)
    : Type 0 where
  pub cases_are : map (λ b. b.first.case) all ≡ cases
  pub each : All (IsBehind plan reference wanted) all
