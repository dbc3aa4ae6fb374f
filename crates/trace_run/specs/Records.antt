-- What a run in one process leaves behind its trace: its host, and its events, by which it is made again.
use Rattle.std.specs.Prelude.{◌≡◌, ◌≤◌, Bool, cond, List, [], length, Option, Some, None, Result, OnOk}
use Rattle.lx_abi.specs.declared.boot.Boot.{Boot}
use Rattle.lx_abi.specs.declared.schedule.Event.{Event}
use Rattle.lx_abi.specs.declared.script.Rule.{Rule}
use Rattle.lx_abi.specs.Scripts.{choice_of}
use Rattle.lx_boot.specs.First.{first_shared}
use Rattle.lx_exec.specs.Programs.{booted}
use Rattle.lx_kernel.specs.Outcomes.{outcome_in}
use Rattle.lx_model.specs.Kernel.{Script}
use Rattle.lx_proc.specs.declared.state.Shared.{Shared}
use Rattle.lx_proc.specs.declared.state.UserState.{UserState}
use Rattle.lx_turn.specs.Linux.{linux}
use Rattle.pt_kernel.specs.Hosts.{HostState}
use Rattle.pt_kernel.specs.Seen.{next_of_host}
use Rattle.pt_model.specs.Headline.{traced_run}
use Rattle.pt_model.specs.Hosting.{host_in}
use Rattle.pt_model.specs.World.{effective, first_world}
use Rattle.pt_schedule.specs.Schedules.{listed, most_events}
use Rattle.pt_schedule.specs.declared.schedule.Schedule.{Schedule}
use Rattle.host_link.specs.LocalLinks.{host_of, noted_of}
use Rattle.host_link.specs.declared.local.LocalLink.{LocalLink}
use Rattle.tr_core.specs.Settings.{options_by}
use Rattle.tr_core.specs.declared.settings.Options.{Options}
use Rattle.trace_run.specs.BootedRuns.{following, BootedRun, IsBooted, RunOf}
use Rattle.trace_run.specs.Local.{Feeds}
use Rattle.trace_run.specs.Writers.{Writer}
use Rattle.trace_run.specs.declared.local.Run.{Run}
use Rattle.trace_run.specs.declared.running.Ended.{Ended}
use Rattle.trace_run.specs.declared.running.RunFault.{RunFault}

-- the list of the events, where they are noted
abbrev pub noted_if : Bool → List Event → Option (List Event)
noted_if notes events = cond notes (Some events) None

-- by these events: the host stands where they led it, and they are what is noted
pub record IsLeftBy (o : Options) (script : Script) (s : Shared) (b : UserState) (notes : Bool) (events : List Event)
    (host : HostState) (noted : Option (List Event)) : Type 0 where
  pub host_is : host_in host.hosting ≡ (traced_run linux outcome_in (options_by o) script s b events).host
  pub turned : host.hosting.turns ≡ effective linux outcome_in (options_by o) script (first_world s b) events
  pub noted_are : noted ≡ noted_if notes events

-- by the events that the schedule gave
abbrev pub Leaves : Boot → Schedule → List Rule → Options → Bool → HostState → Option (List Event) → Type 0
Leaves boot schedule script options notes host noted = (events : List Event)
    → Feeds next_of_host linux outcome_in (options_by (following options boot.follow)) (choice_of script) schedule
    (first_world (first_shared boot.limits boot.files boot.input) (booted boot.argv boot.env)) events
    → IsLeftBy (following options boot.follow) (choice_of script)
    (first_shared boot.limits boot.files boot.input) (booted boot.argv boot.env) notes events host noted

-- a run over a link to a host that this boot began leaves that, where it didn't fail
unfoldable pub BootedRunsLeave : Type 0
BootedRunsLeave = (boot : Boot) (schedule : Schedule) (script : List Rule) (o : Options) (notes : Bool)
    (link link' : LocalLink) (old new : Writer) (result : Result Ended RunFault)
    → IsBooted boot schedule link → noted_of link ≡ noted_if notes []
    → BootedRun boot script o link old result link' new
    → OnOk result (Leaves boot schedule script o notes (host_of link') (noted_of link'))

-- A run by its own events, as a list, is the same: with its trace, its end, its outcome and its effective turns.
abbrev pub RunsReplay : Type 0
RunsReplay = (boot : Boot) (schedule : Schedule) (script : List Rule) (options : Options) (run : Run)
    (r : RunOf boot schedule script options run) → length r.events ≤ most_events
    → RunOf boot (listed r.events) script options run
