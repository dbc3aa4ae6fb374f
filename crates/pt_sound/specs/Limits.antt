-- How many processes there may be, in every state of the ptrace machine at Linux.
use Rattle.std.specs.Prelude.{◌≡◌, List, None}
use Rattle.lx_abi.specs.declared.boot.Boot.{Boot}
use Rattle.lx_abi.specs.declared.outcome.Outcome.{Outcome}
use Rattle.lx_abi.specs.declared.schedule.Event.{Event}
use Rattle.lx_model.specs.Kernel.{Script}
use Rattle.lx_proc.specs.declared.state.Shared.{Shared}
use Rattle.lx_proc.specs.declared.state.UserState.{UserState}
use Rattle.lx_proc.specs.State.{limits_of}
use Rattle.lx_boot.specs.Boots.{fault_of}
use Rattle.lx_boot.specs.First.{first_shared}
use Rattle.lx_exec.specs.Programs.{booted}
use Rattle.lx_turn.specs.Linux.{linux}
use Rattle.pt_model.specs.Parts.{Options}
use Rattle.pt_model.specs.World.{World, happens, first_world, world_run}
use Rattle.pt_sound.specs.Traced.{HostIsSound}

-- no event changes this, whatever is asked
abbrev pub EventsKeepLimits : Type 0
EventsKeepLimits = (outcome : Shared → Outcome) (options : Options) (script : Script) (w : World Shared UserState)
    (e : Event) → HostIsSound w.host →
    (happens linux outcome options script w e).host.shared.limits ≡ w.host.shared.limits

-- so it is as the boot asked, in every world
abbrev pub WorldsKeepLimits : Type 0
WorldsKeepLimits = (outcome : Shared → Outcome) (options : Options) (script : Script) (boot : Boot)
    (events : List Event) →
    fault_of boot ≡ None →
    (world_run linux outcome options script
    (first_world (first_shared boot.limits boot.files boot.input) (booted boot.argv boot.env))
    events).host.shared.limits ≡ limits_of boot.limits
