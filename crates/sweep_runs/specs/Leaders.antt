-- A kernel that is led from place to place: where it stands, each run in which a call fails there goes on, as does
-- each in which one fails later.
use Rattle.std.specs.Prelude.{◌≡◌, ◌↔◌, IsTrue, [], Some, None}
use Rattle.lx_kernel.specs.First.{first_run_without_log}
use Rattle.lx_kernel.specs.Runs.{Run}
use Rattle.pt_schedule.specs.declared.schedule.Schedule.{Schedule}
use Rattle.pt_schedule.specs.Schedules.{worded}
use Rattle.sweep_faults.specs.declared.faults.Fault.{Fault}
use Rattle.sweep_faults.specs.declared.faults.Place.{Place}
use Rattle.sweep_faults.specs.Heard.{HearsBeside}
use Rattle.sweep_faults.specs.Led.{LeadsOn, LeadsTo}
use Rattle.sweep_faults.specs.Words.{HasWords}
use Rattle.sweep_rows.specs.Calls.{same_calls, AreCalls}
use Rattle.sweep_rows.specs.declared.calls.Calls.{Calls}
use Rattle.sweep_rows.specs.declared.verdicts.Reached.{Reached}
use Rattle.sweep_runs.specs.Runs.{FaultReaches}
use Rattle.sweep_runs.specs.declared.leading.Compared.{Compared}
use Rattle.sweep_runs.specs.declared.leading.Leader.{Leader}
use Rattle.sweep_rows.specs.declared.setup.Setup.{Setup}

-- where each run of a setup in which a call fails begins
abbrev pub first_of : Setup → Run
first_of setup = first_run_without_log setup.boot []

abbrev pub words_of : Setup → Schedule
words_of setup = worded setup.turns.items setup.limit

pub record IsAtBoot (setup : Setup) (l : Leader) : Type 0 where
  pub first : l.kernel ≡ first_of setup
  pub words : l.schedule ≡ words_of setup
  pub nowhere : l.place ≡ None
  pub heard : (calls : Calls) → HearsBeside calls l.heard []

-- runs with a failure at the place go on where it stands
abbrev pub GoesOnAt : Setup → Place → Leader → Type 0
GoesOnAt setup place l = LeadsTo place (first_of setup) (words_of setup) l.kernel l.schedule

-- those with one that hasn't begun do, and those with one at the place that it stands at; all was heard that it logged
pub record IsOn (setup : Setup) (l : Leader) : Type 0 where
  pub heard : HearsBeside l.calls l.heard l.kernel.running.log
  pub on : LeadsOn (first_of setup) (words_of setup) l.kernel l.schedule
  pub here : (place : Place) → l.place ≡ Some place → GoesOnAt setup place l

pub record StandsIn (setup : Setup) (place : Place) (l : Leader) : Type 0 where
  pub is_on : IsOn setup l
  pub there : GoesOnAt setup place l

-- the same, beside this reference
pub record IsLed (setup : Setup) (reference : Reached) (l : Leader) : Type 0 where
  pub is_on : IsOn setup l
  pub calls : AreCalls l.calls reference.log.items

-- what the run came to in which this call of this process fails, and what is told of it beside the reference
pub record ComparesTo (setup : Setup) (reference : Reached) (fault : Fault) (c : Compared) : Type 0 where
  pub run : FaultReaches setup fault c.reached
  pub alike : c.alike ≡ same_calls reference.log.items c.reached.log.items reference.ending.outcome.ended
  pub words : IsTrue c.has_words ↔ HasWords setup.boot.follow fault c.reached.log.items
