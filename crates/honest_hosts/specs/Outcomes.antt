-- What is left of each state that a boot reaches is in order, as a frame's reader wants it.
use Rattle.std.specs.Prelude.{◌≡◌, ℕ, Bool, List, None}
use Rattle.lx_abi.specs.declared.boot.Boot.{Boot}
use Rattle.lx_abi.specs.declared.outcome.Outcome.{Outcome}
use Rattle.lx_abi.specs.declared.schedule.Event.{Event}
use Rattle.lx_abi.specs.declared.script.Rule.{Rule}
use Rattle.lx_model.specs.Kernel.{Script, first_kernel, kernel_run}
use Rattle.lx_model.specs.declared.stage.Task.{Task}
use Rattle.lx_proc.specs.declared.state.Shared.{Shared}
use Rattle.lx_proc.specs.declared.state.UserState.{UserState}
use Rattle.lx_boot.specs.Boots.{fault_of}
use Rattle.lx_boot.specs.First.{first_shared}
use Rattle.lx_exec.specs.Programs.{booted}
use Rattle.lx_turn.specs.Linux.{linux}
use Rattle.lx_kernel.specs.First.{first_run}
use Rattle.lx_kernel.specs.Laws.{after_all as after_turns}
use Rattle.lx_kernel.specs.Outcomes.{outcome_in}
use Rattle.lx_sound.specs.Sound.{Sound}
use Rattle.pt_model.specs.Hosting.{Hosting, first_hosting}
use Rattle.pt_model.specs.Parts.{Options}
use Rattle.pt_model.specs.World.{first_world, world_run}
use Rattle.pt_sound.specs.Traced.{Deed, after_all}
use Rattle.host_frame.specs.Spelling.{IsInOrder}

-- of a sound state
abbrev pub SoundStatesLeaveOrder : Type 0
SoundStatesLeaveOrder = (s : Shared) (tasks : ℕ → Task UserState) (child : ℕ) → Sound s tasks child →
    IsInOrder (outcome_in s)

-- after any turns of the untraced kernel, of the definitions and of the code
abbrev pub KernelsLeaveOrder : Type 0
KernelsLeaveOrder = (script : Script) (follow : Bool) (boot : Boot) (pids : List ℕ) → fault_of boot ≡ None →
    IsInOrder (outcome_in (kernel_run linux script follow
    (first_kernel (first_shared boot.limits boot.files boot.input) (booted boot.argv boot.env)) pids).shared)

abbrev pub BootsLeaveOrder : Type 0
BootsLeaveOrder = (boot : Boot) (script : List Rule) (pids : List ℕ) → fault_of boot ≡ None →
    IsInOrder (outcome_in (after_turns (first_run boot script) pids).running.shared)

-- after any events of a traced run
abbrev pub WorldsLeaveOrder : Type 0
WorldsLeaveOrder = (outcome : Shared → Outcome) (options : Options) (script : Script) (boot : Boot)
    (events : List Event) →
    fault_of boot ≡ None →
    IsInOrder (outcome_in (world_run linux outcome options script
    (first_world (first_shared boot.limits boot.files boot.input) (booted boot.argv boot.env)) events).host.shared)

-- a host of a boot, after these requests and events
abbrev pub host_after : (Shared → Outcome) → Bool → Boot → List Deed → Hosting Shared UserState
host_after outcome follow boot deeds =
    after_all outcome follow
    (first_hosting (first_shared boot.limits boot.files boot.input) (booted boot.argv boot.env)) deeds

-- whoever asks it, and whatever
abbrev pub HostsLeaveOrder : Type 0
HostsLeaveOrder = (outcome : Shared → Outcome) (follow : Bool) (boot : Boot) (deeds : List Deed) →
    fault_of boot ≡ None → IsInOrder (outcome_in (host_after outcome follow boot deeds).running.shared)
