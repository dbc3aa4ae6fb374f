-- What comes of a run in which an occurrence of a call fails as its kind says, beside the run without a failure.
use Rattle.std.specs.Prelude.{◌≡◌, cond, if◌then◌else◌, false, Option, Some, None}
use Rattle.sweep_faults.specs.Faults.{is_stop}
use Rattle.sweep_faults.specs.declared.faults.Fault.{Fault}
use Rattle.sweep_rows.specs.declared.kinds.Kind.{Kind}
use Rattle.sweep_rows.specs.Endings.{first_word}
use Rattle.sweep_rows.specs.Files.{file_notes}
use Rattle.sweep_rows.specs.Verdicts.{facts_of, verdict_of}
use Rattle.sweep_rows.specs.declared.verdicts.Facts.{Facts}
use Rattle.sweep_rows.specs.declared.verdicts.Left.{Left}
use Rattle.sweep_rows.specs.declared.verdicts.Reached.{Reached}
use Rattle.sweep_rows.specs.declared.verdicts.Verdict.{Verdict}
use Rattle.sweep_rows.specs.declared.verdicts.Verdict.TheVariants.{Damaged, Torn}
use Rattle.sweep_runs.specs.Runs.{FaultReaches}
use Rattle.sweep_rows.specs.declared.setup.Setup.{Setup}
use Rattle.sweep_runs.specs.declared.trials.Trial.{Trial}
use Rattle.sweep_runs.specs.declared.trials.TrialRow.{TrialRow}

-- the occurrence's process alone fails, at that entry
abbrev pub fault_of : Trial → Fault
fault_of t = record { pid = t.occurrence.pid; call = t.occurrence.call.number; n = t.occurrence.n; kind = t.kind }

-- what the files alone tell: one is destroyed, or was and its content stands elsewhere, or each is whole
abbrev pub verdict_by_files : Left → Option Verdict
verdict_by_files left = if left.torn then Some Torn else (if left.saved then Some Damaged else None)

-- of a run that everything ended, the files alone are asked
abbrev pub verdict_by : Kind → Facts → Option Verdict
verdict_by fails facts = cond (is_stop fails) (verdict_by_files facts.left) (Some (verdict_of facts))

-- the run in which the trial's call of its process fails so, and nothing else, came to this, beside the reference
pub record IsTrialRow (setup : Setup) (reference : Reached) (row : TrialRow) : Type 0 where
  pub reached : Reached
  pub run : FaultReaches setup (fault_of row.trial) reached
  pub files : row.files.items
      ≡ file_notes setup.boot.files reference.ending.outcome.files reached.ending.outcome.files
  pub verdict : row.verdict ≡ verdict_by row.trial.kind (facts_of reference reached row.files.items false)
  pub word : row.word ≡ first_word reached.ending.outcome
  pub ended : row.ended ≡ reached.ending.outcome.ended
  pub streams : row.streams ≡ reached.streams
