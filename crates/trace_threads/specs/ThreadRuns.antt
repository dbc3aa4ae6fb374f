-- A run whose host is turned by threads, by the untraced kernel.
use Rattle.std.specs.Prelude.{◌≡◌, ◌⊎◌, ℕ, ◌≤◌, Bool, true, List, [], length, map, Option, Some, None, Result, Ok, Err}
use Rattle.lx_abi.specs.declared.boot.Boot.{Boot}
use Rattle.lx_abi.specs.declared.outcome.Outcome.{Outcome}
use Rattle.lx_abi.specs.declared.ptrace.Reply.{Reply}
use Rattle.lx_abi.specs.declared.ptrace.Request.{Request}
use Rattle.lx_abi.specs.declared.schedule.Event.{Event}
use Rattle.lx_abi.specs.declared.script.Rule.{Rule}
use Rattle.lx_abi.specs.Scripts.{choice_of}
use Rattle.lx_boot.specs.Boots.{Refuses, fault_of}
use Rattle.lx_boot.specs.First.{first_shared}
use Rattle.lx_boot.specs.declared.boots.BootFault.TheVariants.{Memory as No_memory}
use Rattle.lx_exec.specs.Programs.{booted}
use Rattle.lx_kernel.specs.Outcomes.{outcome_in}
use Rattle.lx_turn.specs.Linux.{linux}
use Rattle.pt_model.specs.Attending.{listed}
use Rattle.pt_model.specs.Calls.{IsOwn}
use Rattle.pt_model.specs.Tracer.{first_tracer}
use Rattle.pt_journal.specs.Told.{Told}
use Rattle.pt_journal.specs.Telling.{Asks}
use Rattle.pt_journal.specs.Journals.{events_of, last_turn, Replays}
use Rattle.pt_journal.specs.declared.entry.Entry.{Entry}
use Rattle.pt_kernel.specs.Hosts.{Linux_host}
use Rattle.host_shared.specs.HeldStates.{HeldState, Kept, first_of, host_by, InCycle, IsStuck}
use Rattle.host_shared.specs.Noting.{noted_of}
use Rattle.host_shared.specs.declared.cut.Cut.{Cut}
use Rattle.host_shared.specs.declared.cut.Cut.TheVariants.{Limit, Nobody, Gate}
use Rattle.host_link.specs.declared.fault.LinkFault.TheVariants.{Memory as Link_memory}
use Rattle.tr_core.specs.Settings.{options_by}
use Rattle.tr_core.specs.declared.settings.Options.{Options}
use Rattle.tr_core.specs.declared.tracing.TraceFault.TheVariants.{Memory as Trace_memory}
use Rattle.trace_run.specs.BootedRuns.{following}
use Rattle.trace_run.specs.Local.{LocalRun}
use Rattle.trace_run.specs.Tells.{Tells}
use Rattle.trace_run.specs.declared.local.Run.{Run}
use Rattle.trace_run.specs.declared.running.Ended.{Ended}
use Rattle.trace_run.specs.declared.running.Ended.TheVariants.{OutOfTurns}
use Rattle.trace_run.specs.declared.running.RunFault.{RunFault}
use Rattle.trace_run.specs.declared.running.RunFault.TheVariants.{Link, Trace, Output}
use Rattle.trace_threads.specs.declared.fault.ThreadsFault.{ThreadsFault}
use Rattle.trace_threads.specs.declared.fault.ThreadsFault.TheVariants.{Boot as Boot_fault, Start, Unlike}
use Rattle.trace_threads.specs.declared.noted.NotedRun.{NotedRun}

-- The boot isn't refused. There is a journal, of at most so many events, which leads the ptrace machine from the boot
-- to this host, by the tracer's requests; each turn is of the next able process in the cycle, and each Serve is
-- answered, so no event does nothing. By its events the run is what a run in one thread is by a list of events: the
-- untraced kernel's, from the boot's files, input and words, under the script. Out of turns is only a run whose journal
-- is as long as the limit, or in whose last state a request waits and nobody is able, or, where the gate may be shut at
-- all, one whose gate was shut.
pub record ThreadRun (boot : Boot) (limit : ℕ) (script : List Rule) (options : Options) (shuts : Bool) (run : Run)
    : Type 0 where
  pub accepted : fault_of boot ≡ None
  pub entries : List Entry
  pub hosting : Linux_host
  pub given : List (Request × Reply)
  pub replayed : Replays linux outcome_in boot.follow (first_of boot) entries hosting
  pub cycled : InCycle boot.follow (first_of boot) 0 entries
  pub told : Told entries given
  pub asked : Asks (options_by (following options boot.follow)) (choice_of script) first_tracer given
  pub few : length (events_of entries) ≤ limit
  pub cut : run.ended ≡ OutOfTurns → (length (events_of entries) ≡ limit)
      ⊎ (IsStuck (host_by hosting boot.follow) (last_turn entries)
      ⊎ (shuts ≡ true))
  pub run_of : LocalRun listed linux outcome_in (following options boot.follow) (choice_of script) (events_of entries)
      (first_shared boot.limits boot.files boot.input) (booted boot.argv boot.env) run.ended run.trace run.outcome
      run.turns

-- such a run, with the events of its journal, if they are noted
abbrev pub IsNotedRun : Boot → ℕ → List Rule → Options → Bool → Bool → NotedRun → Type 0
IsNotedRun boot limit script options shuts notes noted =
    (run : ThreadRun boot limit script options shuts noted.run) × (noted.events ≡ noted_of notes run.entries)

-- a fault of the boot is its own
abbrev pub Faults : Boot → ThreadsFault → Type 0
Faults boot (Boot_fault fault) = Refuses boot fault
Faults boot Start = Unit {0}
Faults boot Unlike = Unit {0}

-- the trace is written to memory
abbrev pub fault_by : RunFault → ThreadsFault
fault_by (Link Link_memory) = Boot_fault No_memory
fault_by (Link f) = Unlike
fault_by (Trace Trace_memory) = Boot_fault No_memory
fault_by (Trace f) = Unlike
fault_by Output = Boot_fault No_memory

-- what the tracer's thread knows of a run that ended so, whatever its host did
pub record IsTraced (script : List Rule) (o : Options) (ended : Ended) (given : List (Request × Reply))
    (trace : List ℕ) : Type 0 where
  -- each request is the one that the tracer asks after the replies before it
  pub asked : Asks (options_by o) (choice_of script) first_tracer given
  -- where the replies are those of a host that a boot began, the trace tells of it
  pub tells : (boot : Boot) (events : List Event)
      → IsOwn linux outcome_in (options_by o) (choice_of script) (first_shared boot.limits boot.files boot.input)
      (booted boot.argv boot.env) events (map (λ x. x.1) given)
      → Tells linux outcome_in o (choice_of script) (first_shared boot.limits boot.files boot.input)
      (booted boot.argv boot.env) events (Ok ended) (Some []) (Some trace)

-- for this reason a host may be out of turns
abbrev pub IsCutBy : Bool → Option Cut → Type 0
IsCutBy shuts None = ⊥
IsCutBy shuts (Some Limit) = Unit {0}
IsCutBy shuts (Some Nobody) = Unit {0}
IsCutBy shuts (Some Gate) = shuts ≡ true

-- what the end of a run on threads gives: what is under the lock is told by the requests and replies of the tracer's
-- link
pub record IsFinished (boot : Boot) (limit : ℕ) (shuts : Bool) (held : HeldState) (given : List (Request × Reply))
    (trace : List ℕ) (ended : Result Ended RunFault) (run : Run) : Type 0 where
  pub ended_is : ended ≡ Ok run.ended
  pub trace_is : run.trace ≡ trace
  pub left : run.outcome ≡ outcome_in held.host.hosting.running.shared
  pub turned : run.turns ≡ held.host.hosting.turns
  pub kept : Kept held
  pub boot_is : held.boot ≡ boot
  pub limit_is : held.limit ≡ limit
  pub told : Told held.journal given
  pub cut : run.ended ≡ OutOfTurns → IsCutBy shuts held.cut

-- the run's own fault, or that of what was left
abbrev pub IsFaultOf : Result Ended RunFault → Result Outcome ThreadsFault → ThreadsFault → Type 0
IsFaultOf (Ok e) left fault = left ≡ Err fault
IsFaultOf (Err f) left fault = fault ≡ fault_by f
