-- Runs in which an occurrence of a call fails, and one behind it.
use Rattle.std.specs.Prelude.{◌≡◌, ◌↔◌, IsTrue, List, []}
use Rattle.lx_abi.specs.declared.log.Item.{Item}
use Rattle.lx_kernel.specs.First.{first_run, first_run_without_log}
use Rattle.lx_kernel.specs.Runs.{Run}
use Rattle.pt_schedule.specs.Schedules.{worded}
use Rattle.sweep_faults.specs.Deep.{RunsDeep}
use Rattle.sweep_faults.specs.Runs.{RunsFaulted}
use Rattle.sweep_faults.specs.Words.{HasWords}
use Rattle.sweep_faults.specs.declared.deep.Deep.{Deep}
use Rattle.sweep_faults.specs.declared.faults.Fault.{Fault}
use Rattle.sweep_rows.specs.Calls.{same_calls}
use Rattle.sweep_rows.specs.declared.verdicts.Reached.{Reached}
use Rattle.sweep_runs.specs.Rows.{IsCompared, fault_of}
use Rattle.sweep_runs.specs.Runs.{IsReached}
use Rattle.sweep_runs.specs.declared.deep.DeepCase.{DeepCase}
use Rattle.sweep_runs.specs.declared.deep.DeepRow.{DeepRow}
use Rattle.sweep_runs.specs.declared.leading.Compared.{Compared}
use Rattle.sweep_rows.specs.declared.setup.Setup.{Setup}

-- a run in which this call of this process fails, whose log is kept
abbrev pub FaultLogs : Setup → Fault → Run → Type 0
FaultLogs setup fault k = RunsFaulted fault (first_run setup.boot []) (worded setup.turns.items setup.limit) k

-- what it logs
pub record FailingLogs (setup : Setup) (fault : Fault) (log : List Item) : Type 0 where
  pub kernel : Run
  pub run : FaultLogs setup fault kernel
  pub logged : log ≡ kernel.running.log

-- each occurrence's process alone fails, at that entry
abbrev pub deep_of : DeepCase → Deep
deep_of c = record { first = fault_of c.first; second = fault_of c.second }

-- a run in which these calls fail, from its boot to the end of its schedule, whose log isn't kept
abbrev pub DeepComesTo : Setup → Deep → Run → Type 0
DeepComesTo setup deep k = RunsDeep deep (first_run_without_log setup.boot []) (worded setup.turns.items setup.limit) k

-- what it came to
pub record DeepReaches (setup : Setup) (deep : Deep) (r : Reached) : Type 0 where
  pub kernel : Run
  pub run : DeepComesTo setup deep kernel
  pub reached : IsReached kernel r

-- what the run came to in which both calls fail, and what is told of it beside the reference
pub record DeepComparesTo (setup : Setup) (reference : Reached) (case : DeepCase) (c : Compared) : Type 0 where
  pub run : DeepReaches setup (deep_of case) c.reached
  pub alike : c.alike ≡ same_calls reference.log.items c.reached.log.items reference.ending.outcome.ended
  pub words : IsTrue c.has_words ↔ HasWords setup.boot.follow (fault_of case.second) c.reached.log.items

abbrev pub case_in : DeepRow → DeepCase
case_in r = record { first = r.first; second = r.row.case }

-- the run in which both calls fail, and nothing else, came to this, beside the reference
pub record IsDeepRow (setup : Setup) (reference : Reached) (r : DeepRow) : Type 0 where
  pub reached : Reached
  pub run : DeepReaches setup (deep_of (case_in r)) reached
  pub compared : IsCompared setup.boot reference reached r.row
