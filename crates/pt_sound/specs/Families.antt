-- Families in every state of the ptrace machine at Linux.
use Rattle.std.specs.Prelude.{◌≡◌, ℕ, List, None}
use Rattle.lx_abi.specs.declared.boot.Boot.{Boot}
use Rattle.lx_abi.specs.declared.outcome.Outcome.{Outcome}
use Rattle.lx_abi.specs.declared.ptrace.Request.{Request}
use Rattle.lx_abi.specs.declared.schedule.Event.{Event}
use Rattle.lx_model.specs.Kernel.{Script}
use Rattle.lx_proc.specs.declared.state.Shared.{Shared}
use Rattle.lx_proc.specs.declared.state.UserState.{UserState}
use Rattle.lx_boot.specs.Boots.{fault_of}
use Rattle.lx_boot.specs.First.{first_shared}
use Rattle.lx_exec.specs.Programs.{booted}
use Rattle.lx_turn.specs.Linux.{linux}
use Rattle.lx_laws.specs.Families.{AreFamilies}
use Rattle.pt_model.specs.Ptrace.{Host, host_turn}
use Rattle.pt_model.specs.Requests.{serve}
use Rattle.pt_model.specs.Parts.{Options}
use Rattle.pt_model.specs.World.{first_world, world_run}
use Rattle.pt_sound.specs.Traced.{HostIsSound}

abbrev pub HasFamilies : Host Shared UserState → Type 0
HasFamilies h = AreFamilies h.shared.entries

abbrev pub TurnsKeepFamilies : Type 0
TurnsKeepFamilies = (h : Host Shared UserState) (p : ℕ) → HostIsSound h → HasFamilies h →
    HasFamilies (host_turn linux h p)

abbrev pub RequestsKeepFamilies : Type 0
RequestsKeepFamilies = (outcome : Shared → Outcome) (h : Host Shared UserState) (q : Request) → HasFamilies h →
    HasFamilies (serve linux outcome h q).host

-- so they hold in every world, under every script and all options, after any events
abbrev pub WorldsHaveFamilies : Type 0
WorldsHaveFamilies = (outcome : Shared → Outcome) (options : Options) (script : Script) (boot : Boot)
    (events : List Event) →
    fault_of boot ≡ None →
    HasFamilies (world_run linux outcome options script
    (first_world (first_shared boot.limits boot.files boot.input) (booted boot.argv boot.env)) events).host
