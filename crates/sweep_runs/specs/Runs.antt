-- The runs of a sweep.
use Rattle.std.specs.Prelude.{◌≡◌, ◌-◌, Bool, List, []}
use Rattle.std.specs.List.{list_any, range_with_len}
use Rattle.lx_abi.specs.Modes.{lives_in}
use Rattle.lx_abi.specs.declared.script.Rule.{Rule}
use Rattle.lx_kernel.specs.First.{first_run, first_run_without_log}
use Rattle.lx_kernel.specs.Outcomes.{outcome_in}
use Rattle.lx_kernel.specs.Runs.{Run, mode_in}
use Rattle.pt_schedule.specs.Schedules.{worded}
use Rattle.plain_run.specs.Runs.{RunsTo}
use Rattle.sweep_faults.specs.Runs.{RunsFaulted}
use Rattle.sweep_faults.specs.declared.faults.Fault.{Fault}
use Rattle.sweep_rows.specs.Streams.{streams_of}
use Rattle.sweep_rows.specs.declared.endings.Ending.{Ending}
use Rattle.sweep_rows.specs.declared.verdicts.Reached.{Reached}
use Rattle.sweep_rows.specs.declared.setup.Setup.{Setup}

-- some process has not ended
unfoldable pub is_alive : Run → Bool
is_alive k = list_any (λ p. lives_in (mode_in k p)) (range_with_len 1 (k.running.child - 1))

-- what a kernel has left
abbrev pub ending_of : Run → Ending
ending_of k = record { outcome = outcome_in k.running.shared; alive = is_alive k }

-- a run under a script, from its boot to the end of its schedule
abbrev pub ComesTo : Setup → List Rule → Run → Type 0
ComesTo setup script k = RunsTo (first_run setup.boot script) (worded setup.turns.items setup.limit) k

-- a run in which this call of this process fails, whose log isn't kept
abbrev pub FaultComesTo : Setup → Fault → Run → Type 0
FaultComesTo setup fault k =
    RunsFaulted fault (first_run_without_log setup.boot []) (worded setup.turns.items setup.limit) k

-- what a run left, logged and said
pub record IsReached (k : Run) (r : Reached) : Type 0 where
  pub ending : r.ending ≡ ending_of k
  pub log : r.log.items ≡ k.running.log
  pub streams : r.streams ≡ streams_of r.log.items r.ending.outcome.console

-- what the run under a script came to
pub record Reaches (setup : Setup) (script : List Rule) (r : Reached) : Type 0 where
  pub kernel : Run
  pub run : ComesTo setup script kernel
  pub reached : IsReached kernel r

-- what the run came to in which this call of this process fails
pub record FaultReaches (setup : Setup) (fault : Fault) (r : Reached) : Type 0 where
  pub kernel : Run
  pub run : FaultComesTo setup fault kernel
  pub reached : IsReached kernel r
