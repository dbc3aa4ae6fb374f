-- What comes of a run whose files a command has judged.
use Rattle.std.specs.Prelude.{◌≡◌, ◌==◌, ◌&&◌, nat_lt, cond, not, Bool, true, false, List, [], ◌∷◌, length, map, All}
use Rattle.sweep_rows.specs.Summary.{rank, checked}
use Rattle.sweep_rows.specs.Verdicts.{facts_of, verdict_of}
use Rattle.sweep_rows.specs.declared.verdicts.Reached.{Reached}
use Rattle.sweep_rows.specs.declared.verdicts.Verdict.{Verdict}
use Rattle.sweep_rows.specs.declared.verdicts.Verdict.TheVariants.{Killed}
use Rattle.sweep_runs.specs.Rows.{fault_of, IsRow}
use Rattle.sweep_runs.specs.Runs.{FaultReaches}
use Rattle.sweep_rows.specs.declared.wanted.Case.{Case}
use Rattle.sweep_rows.specs.declared.setup.Setup.{Setup}
use Rattle.sweep_rows.specs.declared.row.Row.{Row}

-- the command is asked about a run that left other files than the reference, and was neither hung nor killed
abbrev pub is_asked : Row → Bool
is_asked r = not (length r.files.items == 0) && nat_lt (rank Killed) (rank r.verdict)

-- what comes of the run: but for its files, if the command says that they are fine; otherwise it is broken
abbrev pub judged : Reached → Reached → Bool → Row → Verdict
judged reference run fine r =
    cond (is_asked r) (checked fine (verdict_of (facts_of reference run [] r.case.tells))) r.verdict

abbrev pub with_verdict : Row → Verdict → Row
with_verdict r v = record r { verdict = v }

-- the row of a run, judged by what the command says of the files that the run left, if it is asked
pub record IsJudged (setup : Setup) (reference : Reached) (made row : Row) : Type 0 where
  pub fine : Bool
  pub run : Reached
  pub reached : is_asked made ≡ true → FaultReaches setup (fault_of made.case) run
  pub row_is : row ≡ with_verdict made (judged reference run fine made)

-- each of these rows
abbrev pub AreJudged : Setup → Reached → List Row → List Row → Type 0
AreJudged setup reference [] rows = rows ≡ []
AreJudged setup reference (m ∷ ms) [] = ⊥
AreJudged setup reference (m ∷ ms) (r ∷ rs) = IsJudged setup reference m r × AreJudged setup reference ms rs

-- what is told of a run: what came of it, and with a check what the command says of it
abbrev pub IsTold : Bool → Setup → Reached → Row → Type 0
IsTold false setup reference row = IsRow setup reference row
IsTold true setup reference row = (made : Row) × IsRow setup reference made × IsJudged setup reference made row

-- such a row for each of these cases, in their order
pub record AreTold (is_checked : Bool) (setup : Setup) (reference : Reached) (cases : List Case) (rows : List Row)
    : Type 0 where
  pub cases_are : map (λ r. r.case) rows ≡ cases
  pub each : All (IsTold is_checked setup reference) rows
