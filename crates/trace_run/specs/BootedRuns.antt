-- A run from its boot on, in the tracer's own process.
use Rattle.std.specs.Prelude.{◌≡◌, Bool, false, List, [], Result, Ok, Err, IfErr, OnOk}
use Rattle.lx_abi.specs.declared.boot.Boot.{Boot}
use Rattle.lx_abi.specs.declared.schedule.Event.{Event}
use Rattle.lx_abi.specs.declared.script.Rule.{Rule}
use Rattle.lx_abi.specs.Scripts.{choice_of}
use Rattle.lx_boot.specs.First.{first_shared}
use Rattle.lx_turn.specs.Linux.{linux}
use Rattle.lx_kernel.specs.Outcomes.{outcome_in}
use Rattle.lx_exec.specs.Programs.{booted}
use Rattle.lx_proc.specs.declared.state.Shared.{Shared}
use Rattle.lx_proc.specs.declared.state.UserState.{UserState}
use Rattle.lx_model.specs.Kernel.{Script}
use Rattle.pt_model.specs.Calls.{TalksOver, IsOwn}
use Rattle.pt_model.specs.Tracer.{first_tracer}
use Rattle.pt_model.specs.World.{first_world}
use Rattle.pt_kernel.specs.Seen.{next_of_host}
use Rattle.pt_schedule.specs.Schedules.{events_left}
use Rattle.pt_schedule.specs.declared.schedule.Schedule.{Schedule}
use Rattle.pt_model.specs.Hosting.{first_hosting}
use Rattle.host_link.specs.LocalLinks.{host_of, schedule_of, given_of, faults_of, is_over}
use Rattle.host_link.specs.declared.local.LocalLink.{LocalLink}
use Rattle.tr_core.specs.Settings.{options_by, first_pen}
use Rattle.tr_core.specs.States.{new_state}
use Rattle.tr_core.specs.declared.settings.Options.{Options}
use Rattle.trace_run.specs.Local.{LocalRun, Feeds}
use Rattle.trace_run.specs.LocalRuns.{IsGoing, FailsBy, IsLocalFault, local_answers}
use Rattle.trace_run.specs.Runs.{Answers, RunsWhole, replies_of}
use Rattle.trace_run.specs.Tells.{Tells, OwnUntil, RefusedTells}
use Rattle.trace_run.specs.Writers.{Writer}
use Rattle.trace_run.specs.Writings.{Writing, writing, writer_in}
use Rattle.trace_run.specs.declared.local.Run.{Run}
use Rattle.trace_run.specs.declared.running.Ended.{Ended}
use Rattle.trace_run.specs.declared.running.RunFault.{RunFault}
use Rattle.trace_run.specs.declared.running.RunFault.TheVariants.{Trace}
use Rattle.tr_core.specs.declared.tracing.TraceFault.TheVariants.{Inadmissible}

-- who is traced is settled by the boot
abbrev pub following : Options → Bool → Options
following o follow = record o { follow = follow }

-- the run is the untraced kernel's, from the boot's files, input and words, under the script, by the effective turns of
-- the events that the schedule gave
abbrev pub RunOf : Boot → Schedule → List Rule → Options → Run → Type 0
RunOf boot schedule script options run =
    LocalRun next_of_host linux outcome_in (following options boot.follow) (choice_of script) schedule
    (first_shared boot.limits boot.files boot.input) (booted boot.argv boot.env) run.ended run.trace run.outcome
    run.turns

-- A run from these parts to any writer, however it ends. It went over a link to a booted host that this schedule feeds;
-- the events are those that the schedule gave, request by request, all of them where the run didn't fail; and what was
-- written begins the rendering of a view of the untraced kernel's log by then.
pub record TracesTo (o : Options) (script : Script) (schedule : Schedule) (s : Shared) (b : UserState)
    (result : Result Ended RunFault) (old new : Writer) : Type 0 where
  pub link : LocalLink
  pub link' : LocalLink
  pub ran : RunsWhole local_answers (new_state (options_by o) script (first_pen o)) link old result link' new
  pub going : IsGoing link
  pub begun : (host_of link).hosting ≡ first_hosting s b
  pub by : schedule_of link ≡ schedule
  pub events : List Event
  pub given : TalksOver next_of_host linux outcome_in (options_by o) script first_tracer schedule (first_world s b).host
      events ran.runs.exchanges
  pub fed : OnOk result (Feeds next_of_host linux outcome_in (options_by o) script schedule (first_world s b) events)
  pub tells : Tells linux outcome_in o script s b events result old.contents new.contents

-- from the boot's files, input and words, under the script
abbrev pub TraceOf : Boot → Schedule → List Rule → Options → Result Ended RunFault → Writer → Writer → Type 0
TraceOf boot schedule script options result old new =
    TracesTo (following options boot.follow) (choice_of script) schedule
    (first_shared boot.limits boot.files boot.input) (booted boot.argv boot.env) result old new

-- A link to a host that this boot began, which this schedule feeds
unfoldable pub IsBooted : Boot → Schedule → LocalLink → Type 0
IsBooted boot schedule link =
    ((host_of link).hosting ≡ first_hosting (first_shared boot.limits boot.files boot.input)
    (booted boot.argv boot.env))
    × ((host_of link).failed ≡ false)
    × (faults_of link ≡ 0)
    × (is_over link ≡ false)
    × (given_of link ≡ 0)
    × (schedule_of link ≡ schedule)

-- a run over it
abbrev pub BootedRun : Boot → List Rule → Options → LocalLink → Writer → Result Ended RunFault → LocalLink → Writer
    → Type 0
BootedRun boot script o link old result link' new =
    RunsWhole local_answers
    (new_state (options_by (following o boot.follow)) (choice_of script) (first_pen (following o boot.follow))) link old
    result link' new

-- one that writes to memory
unfoldable pub KeptRun : List Rule → Options → LocalLink → Writing → Result Ended RunFault → LocalLink → Writing
    → Type 0
KeptRun script o link old result link' new =
    RunsWhole local_answers (new_state (options_by o) (choice_of script) (first_pen o)) link (writer_in old) result
    link' (writer_in new)

-- what it leaves
unfoldable pub IsLeft : LocalLink → Writing → Ended → Run → Type 0
IsLeft link trace ended run = (run.ended ≡ ended) × (run.trace ≡ trace.bytes)
    × (run.outcome ≡ outcome_in (host_of link).hosting.running.shared) × (run.turns ≡ (host_of link).hosting.turns)

-- is the untraced kernel's, where it didn't fail and wrote to memory
unfoldable pub BootedRunsTell : Type 0
BootedRunsTell = (boot : Boot) (schedule : Schedule) (script : List Rule) (o : Options) (link link' : LocalLink)
    (old new : Writing) (ended : Ended) (run : Run)
    → IsBooted boot schedule link → old ≡ writing []
    → KeptRun script (following o boot.follow) link old (Ok ended) link' new → IsLeft link' new ended run
    → RunOf boot schedule script o run

-- writes what that kernel says, to any writer and however it ends
unfoldable pub BootedTracesTell : Type 0
BootedTracesTell = (boot : Boot) (schedule : Schedule) (script : List Rule) (o : Options) (link link' : LocalLink)
    (old new : Writer) (result : Result Ended RunFault)
    → IsBooted boot schedule link → BootedRun boot script o link old result link' new
    → TraceOf boot schedule script o result old new

-- and fails only so
unfoldable pub BootedRunsFail : Type 0
BootedRunsFail = (boot : Boot) (schedule : Schedule) (script : List Rule) (o : Options) (link link' : LocalLink)
    (old new : Writer) (result : Result Ended RunFault)
    → IsBooted boot schedule link → BootedRun boot script o link old result link' new
    → IfErr result (FailsBy (events_left schedule) new.broken)

-- whichever its cause is
unfoldable pub KeptRunsFail : Type 0
KeptRunsFail = (boot : Boot) (schedule : Schedule) (script : List Rule) (o : Options) (link link' : LocalLink)
    (old new : Writing) (fault : RunFault)
    → IsBooted boot schedule link → KeptRun script (following o boot.follow) link old (Err fault) link' new
    → IsLocalFault fault

-- Over any link

-- The replies are those of a host that this boot began, by these events. A host doesn't look at the boot's follow: who
-- is traced is settled by the tracer's options, for the log too.
unfoldable pub LinuxRunsTell : {L : Type 0} → Answers L → Type 0
LinuxRunsTell {L} answers = (boot : Boot) (script : List Rule) (o : Options)
    (link link' : L) (old new : Writer) (result : Result Ended RunFault)
    (w : RunsWhole answers (new_state (options_by o) (choice_of script) (first_pen o)) link old result link' new)
    (events : List Event)
    → IsOwn linux outcome_in (options_by o) (choice_of script) (first_shared boot.limits boot.files boot.input)
    (booted boot.argv boot.env) events (replies_of w.runs.exchanges)
    → Tells linux outcome_in o (choice_of script) (first_shared boot.limits boot.files boot.input)
    (booted boot.argv boot.env) events result old.contents new.contents

-- and where it fails by a reply that isn't admitted, those before it are
unfoldable pub LinuxRefusedRunsTell : {L : Type 0} → Answers L → Type 0
LinuxRefusedRunsTell {L} answers = (boot : Boot) (script : List Rule) (o : Options)
    (link link' : L) (old new : Writer)
    (w : RunsWhole answers (new_state (options_by o) (choice_of script) (first_pen o)) link old
    (Err (Trace Inadmissible)) link' new)
    (events : List Event)
    (u : OwnUntil linux outcome_in (options_by o) (choice_of script) (first_shared boot.limits boot.files boot.input)
    (booted boot.argv boot.env) events (replies_of w.runs.exchanges))
    → RefusedTells linux outcome_in o (choice_of script) (first_shared boot.limits boot.files boot.input)
    (booted boot.argv boot.env) events u.own old.contents new.contents
