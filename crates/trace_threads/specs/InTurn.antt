-- A run on threads, event by event: whose turn it is as the world stands.
use Rattle.std.specs.Prelude.{◌≡◌, ◌⊎◌, ℕ, zero, suc, ◌-◌, ◌≤◌, true, false, List, [], ◌∷◌, Option, Some, None}
use Rattle.lx_abi.specs.Scripts.{choice_of}
use Rattle.lx_abi.specs.declared.boot.Boot.{Boot}
use Rattle.lx_abi.specs.declared.schedule.Event.{Event}
use Rattle.lx_abi.specs.declared.schedule.Event.TheVariants.{Turn, Serve}
use Rattle.lx_abi.specs.declared.script.Rule.{Rule}
use Rattle.lx_boot.specs.First.{first_shared}
use Rattle.lx_exec.specs.Programs.{booted}
use Rattle.lx_kernel.specs.Outcomes.{outcome_in}
use Rattle.lx_model.specs.Kernel.{Script}
use Rattle.lx_proc.specs.declared.state.Shared.{Shared}
use Rattle.lx_proc.specs.declared.state.UserState.{UserState}
use Rattle.lx_turn.specs.Linux.{linux}
use Rattle.pt_journal.specs.Journals.{events_of}
use Rattle.pt_kernel.specs.Seen.{is_able}
use Rattle.pt_model.specs.Attending.{is_ready}
use Rattle.pt_model.specs.Calls.{attends}
use Rattle.pt_model.specs.Parts as parts
use Rattle.pt_model.specs.Ptrace.{is_there}
use Rattle.pt_model.specs.Tracer.{request}
use Rattle.pt_model.specs.World.{World, first_world, happens}
use Rattle.pt_schedule.specs.Cycle.{next_able}
use Rattle.tr_core.specs.Settings.{options_by}
use Rattle.tr_core.specs.declared.settings.Options.{Options}
use Rattle.trace_run.specs.BootedRuns.{following}
use Rattle.trace_run.specs.declared.local.Run.{Run}
use Rattle.trace_threads.specs.ThreadRuns.{ThreadRun}

-- the next able process in the cycle of the pids up to this one, behind that of the last turn
abbrev pub next_in : ℕ → World Shared UserState → ℕ → Option ℕ
next_in last_pid w last = next_able (is_able linux w.host) last_pid last

-- who had the last turn
abbrev pub last_after : ℕ → Event → ℕ
last_after last (Turn p) = p
last_after last Serve = last

-- a turn is that process's
abbrev pub IsDue : ℕ → World Shared UserState → ℕ → Event → Type 0
IsDue last_pid w last (Turn p) = next_in last_pid w last ≡ Some p
IsDue last_pid w last Serve = Unit {0}

-- what is asked waits for a turn, and nobody is able to make one
pub record IsStill (last_pid : ℕ) (o : parts.Options) (w : World Shared UserState) (last : ℕ) : Type 0 where
  pub waits : is_ready linux outcome_in (attends o w) ≡ false
  pub pids : w.host.shared.limits.last_pid ≡ last_pid
  pub nobody : next_in last_pid w last ≡ None

-- From this world on each of the events is made while something is asked, and each turn is due. Then nothing is asked,
-- so many were made, or nobody is able.
abbrev pub AreDue : ℕ → parts.Options → Script → World Shared UserState → ℕ → ℕ → List Event → Type 0
AreDue last_pid o script w last left [] =
    (request o w.tracer.focus ≡ None) ⊎ ((left ≡ 0) ⊎ IsStill last_pid o w last)
AreDue last_pid o script w last left (e ∷ es) =
    (is_there (request o w.tracer.focus) ≡ true)
    × (IsDue last_pid w last e
    × ((1 ≤ left)
    × AreDue last_pid o script (happens linux outcome_in o script w e) (last_after last e) (left - 1) es))

-- the first of them, so many at most, are no turns
abbrev pub BeginServed : ℕ → List Event → Type 0
BeginServed zero es = Unit {0}
BeginServed (suc k) [] = Unit {0}
BeginServed (suc k) (Serve ∷ es) = BeginServed k es
BeginServed (suc k) (Turn p ∷ es) = ⊥

-- The run's events are all of its journal's. From the boot on each turn was due, and the first three requests, until
-- process 1 is resumed, were served before any turn.
pub record TakesTurns (boot : Boot) (limit : ℕ) (script : List Rule) (options : Options) (run : Run)
    (t : ThreadRun boot limit script options false run) : Type 0 where
  pub all : t.run_of.events ≡ events_of t.entries
  pub served : BeginServed 3 (events_of t.entries)
  pub due : AreDue boot.limits.last_pid (options_by (following options boot.follow)) (choice_of script)
      (first_world (first_shared boot.limits boot.files boot.input) (booted boot.argv boot.env)) 0 limit
      (events_of t.entries)

-- so it is of each whose gate is never shut
abbrev pub ThreadsTakeTurns : Type 0
ThreadsTakeTurns = (boot : Boot) (limit : ℕ) (script : List Rule) (options : Options) (run : Run)
    (t : ThreadRun boot limit script options false run) → TakesTurns boot limit script options run t
