-- What a sweep tells: of each case what came of its run, beside the run without a failure.
use Rattle.std.specs.Prelude.{◌≡◌, ◌↔◌, ℕ, ◌==◌, cond, IsTrue, List, [], map, All}
use Rattle.lx_abi.specs.declared.boot.Boot.{Boot}
use Rattle.lx_abi.specs.declared.errno.Errno.{Errno}
use Rattle.lx_abi.specs.declared.script.Rule.{Rule}
use Rattle.lx_abi.specs.Sys.{sys_close}
use Rattle.sweep_faults.specs.Words.{failure_of, HasWords}
use Rattle.sweep_faults.specs.declared.faults.Fault.{Fault}
use Rattle.sweep_rows.specs.declared.kinds.Kind.{Kind}
use Rattle.sweep_rows.specs.declared.kinds.Kind.TheVariants as kind
use Rattle.sweep_rows.specs.Failures.{FailsAlone}
use Rattle.sweep_rows.specs.Files.{file_notes}
use Rattle.sweep_rows.specs.Endings.{first_word}
use Rattle.sweep_rows.specs.Verdicts.{facts_of, verdict_of}
use Rattle.sweep_rows.specs.declared.verdicts.Reached.{Reached}
use Rattle.sweep_runs.specs.Cases.{cases_of}
use Rattle.sweep_runs.specs.Runs.{FaultReaches, Reaches}
use Rattle.sweep_rows.specs.declared.wanted.Case.{Case}
use Rattle.sweep_rows.specs.declared.wanted.Wanted.{Wanted}
use Rattle.sweep_rows.specs.declared.row.Row.{Row}
use Rattle.sweep_runs.specs.declared.sweeping.Report.{Report}
use Rattle.sweep_rows.specs.declared.setup.Setup.{Setup}

-- how a call fails with an error: close is done all the same (close(2))
abbrev pub kind_of : ℕ → Errno → Kind
kind_of call error = cond (call == sys_close) (kind.Done error) (kind.Undone error)

-- the occurrence's process alone fails, at that entry
abbrev pub fault_of : Case → Fault
fault_of c = record {
  pid = c.occurrence.pid;
  call = c.occurrence.call.number;
  n = c.occurrence.n;
  kind = kind_of c.occurrence.call.number c.error;
}

-- what came of a run, beside the reference
pub record IsCompared (boot : Boot) (reference run : Reached) (row : Row) : Type 0 where
  pub files : row.files.items ≡ file_notes boot.files reference.ending.outcome.files run.ending.outcome.files
  pub verdict : row.verdict ≡ verdict_of (facts_of reference run row.files.items row.case.tells)
  pub word : row.word ≡ first_word run.ending.outcome
  pub ended : row.ended ≡ run.ending.outcome.ended
  pub streams : row.streams ≡ run.streams
  pub words : IsTrue row.has_words ↔ HasWords boot.follow (fault_of row.case) run.log.items

-- the run in which the case's call of its process fails, and nothing else, came to this, beside the reference
pub record IsRow (setup : Setup) (reference : Reached) (row : Row) : Type 0 where
  pub reached : Reached
  pub run : FaultReaches setup (fault_of row.case) reached
  pub compared : IsCompared setup.boot reference reached row

-- a row for each of these cases, in their order
pub record AreRows (setup : Setup) (reference : Reached) (cases : List Case) (rows : List Row) : Type 0 where
  pub cases_are : map (λ r. r.case) rows ≡ cases
  pub each : All (IsRow setup reference) rows

-- the rows are those of the cases of the log of the run without a failure
pub record IsReport (setup : Setup) (wanted : List Wanted) (s : Report) : Type 0 where
  pub reference : Reaches setup [] s.reference
  pub rows : AreRows setup s.reference (cases_of wanted setup.boot.follow s.reference.log.items) s.rows.items

-- The law: where the case has words, the run under a script of these came to the same
abbrev pub WordsReach : Type 0
WordsReach =
    (setup : Setup) (case : Case) (script : List Rule) (r : Reached)
    → FailsAlone (failure_of (fault_of case) case.error) script
    → HasWords setup.boot.follow (fault_of case) r.log.items
    → FaultReaches setup (fault_of case) r
    → Reaches setup script r
