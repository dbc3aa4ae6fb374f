-- The events that a run notes.
use Rattle.std.specs.Prelude.{◌≡◌, ℕ, Bool, true, false, ⊤, List, Option, Some, None, IfSome, codes}
use Rattle.front_end.specs.declared.streams.Opened.{Opened}
use Rattle.lx_abi.specs.declared.boot.Boot.{Boot}
use Rattle.lx_abi.specs.declared.schedule.Event.{Event}
use Rattle.lx_abi.specs.declared.script.Rule.{Rule}
use Rattle.lx_abi.specs.Scripts.{choice_of}
use Rattle.lx_boot.specs.First.{first_shared}
use Rattle.lx_exec.specs.Programs.{booted}
use Rattle.lx_kernel.specs.Outcomes.{outcome_in}
use Rattle.lx_turn.specs.Linux.{linux}
use Rattle.pt_kernel.specs.Seen.{next_of_host}
use Rattle.pt_model.specs.World.{first_world}
use Rattle.pt_schedule.specs.Schedules.{worded}
use Rattle.pt_schedule.specs.declared.schedule.Schedule.{Schedule}
use Rattle.tr_core.specs.Settings.{options_by}
use Rattle.tr_core.specs.declared.settings.Options.{Options}
use Rattle.trace_run.specs.BootedRuns.{following}
use Rattle.trace_run.specs.Local.{Feeds}
use Rattle.trace_run.specs.Records.{noted_if}
use Rattle.trace_command.specs.Tracing.{Wanted, is_noted, wants}
use Rattle.trace_command.specs.TurnsOut.{WritesTurns}
use Rattle.trace_command.specs.declared.kept.Kept.{Kept}
use Rattle.trace_command.specs.declared.kernel.Kernel.{Kernel}
use Rattle.trace_command.specs.declared.kernel.Kernel.TheVariants.{Here, OnThreads, There}
use Rattle.trace_words.specs.Copies.{IsSame}
use Rattle.trace_words.specs.declared.plan.Plan.{Plan}
use Rattle.trace_words.specs.declared.asked.Workers.{Workers}

-- The events of such a run in this process: those that its schedule gives, until nothing is asked or it has ended.
-- There is one list of them.
abbrev pub EventsHere : Options → List Rule → Boot → Schedule → List Event → Type 0
EventsHere o script boot schedule events =
    Feeds next_of_host linux outcome_in (options_by (following o boot.follow)) (choice_of script) schedule
    (first_world (first_shared boot.limits boot.files boot.input) (booted boot.argv boot.env)) events

abbrev pub NotesHere : Options → List Rule → Boot → Schedule → Bool → Option (List Event) → Type 0
NotesHere o script boot schedule asked noted =
    (events : List Event) → EventsHere o script boot schedule events → noted ≡ noted_if asked events

-- over this kernel; a host in a child notes none here, and threads' run tells its own
abbrev pub Notes : {P I O E : Type 0} → Options → List Rule → Kernel P I O E → Bool → Option (List Event) → Type 0
Notes o script (Here boot schedule) asked noted = NotesHere o script boot schedule asked noted
Notes o script (There link) asked noted = ⊤
Notes o script (OnThreads boot workers) asked noted = ⊤

-- the run of a plan
abbrev pub EventsOf : ℕ → Plan → List Event → Type 0
EventsOf limit plan events = EventsHere plan.options plan.script plan.boot (worded plan.turns.items limit) events

abbrev pub NotesOf : Option (List ℕ) → Option Workers → ℕ → Plan → Bool → Option (List Event) → Type 0
NotesOf None None limit plan asked noted =
    NotesHere plan.options plan.script plan.boot (worded plan.turns.items limit) asked noted
NotesOf None (Some workers) limit plan asked noted = ⊤
NotesOf (Some host) workers limit plan asked noted = ⊤

-- ---- and what the file of them holds

-- a run that a host makes is made once more, by the same plan, where its events are asked for
abbrev pub IsSecond : Option Workers → Option (List ℕ) → Plan → Bool → Option Plan → Type 0
IsSecond (Some workers) host plan asked second = second ≡ None
IsSecond None None plan asked second = second ≡ None
IsSecond None (Some host) plan asked None = asked ≡ false
IsSecond None (Some host) plan asked (Some again) = IsSame plan again

-- what is kept of the run of a plan, before it is made
pub record IsKeptFor (wanted : Wanted) (plan : Plan) (kept : Kept) : Type 0 where
  pub asked : kept.asked.events ≡ is_noted wanted
  pub limit : kept.asked.limit ≡ wanted.options.limit
  pub second : IsSecond wanted.options.workers (wants wanted (codes "host")) plan kept.asked.events kept.second

-- what is asked for stays as it was
abbrev pub AsksAlike : Kept → Kept → Type 0
AsksAlike old new = (new.asked ≡ old.asked) × (new.second ≡ old.second)

-- the file of this path is written the words of the events of a run by this plan, made in this process
abbrev pub WritesEventsOf : {F : Type 0} → (Opened F → Option (List ℕ)) → List ℕ → ℕ → Plan → Type 0
WritesEventsOf held path limit plan = (events : List Event) → EventsOf limit plan events → WritesTurns held path events

-- the file of this path, where there is one, is written what is noted, or what a second run notes
abbrev pub WritesKept : {F : Type 0} → (Opened F → Option (List ℕ)) → List ℕ → Kept → Option Plan → Type 0
WritesKept held path kept None = IfSome kept.known.events (WritesTurns held path)
WritesKept held path kept (Some again) = kept.asked.events ≡ true → WritesEventsOf held path kept.asked.limit again

abbrev pub WritesNoted : {F : Type 0} → (Opened F → Option (List ℕ)) → Option (List ℕ) → Kept → Type 0
WritesNoted held None kept = ⊤
WritesNoted held (Some path) kept = WritesKept held path kept kept.second

-- It is written the words of the run's events. Threads' are those that were noted, of the run's journal. Else they are
-- those of the run by this plan in this process, where a host made it too.

abbrev pub WritesEventsTo : {F : Type 0} → (Opened F → Option (List ℕ)) → Option Workers → Wanted → Plan
    → Option (List Event) → List ℕ → Type 0
WritesEventsTo held (Some workers) wanted plan noted path = IfSome noted (WritesTurns held path)
WritesEventsTo held None wanted plan noted path = WritesEventsOf held path wanted.options.limit plan

abbrev pub WritesEventsAt : {F : Type 0} → (Opened F → Option (List ℕ)) → Wanted → Plan → Option (List Event)
    → Option (List ℕ) → Type 0
WritesEventsAt held wanted plan noted None = ⊤
WritesEventsAt held wanted plan noted (Some path) = WritesEventsTo held wanted.options.workers wanted plan noted path

abbrev pub WritesEvents : {F : Type 0} → (Opened F → Option (List ℕ)) → Wanted → Plan → Option (List Event) → Type 0
WritesEvents held wanted plan noted = WritesEventsAt held wanted plan noted (wants wanted (codes "turns-out"))
