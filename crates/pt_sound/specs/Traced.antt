-- What holds in every state of the ptrace machine at Linux.
use Rattle.std.specs.Prelude.{◌≡◌, ℕ, Bool, List, [], ◌∷◌, None}
use Rattle.std.specs.Option.{unwrap_or}
use Rattle.lx_abi.specs.declared.boot.Boot.{Boot}
use Rattle.lx_abi.specs.declared.outcome.Outcome.{Outcome}
use Rattle.lx_abi.specs.declared.ptrace.Request.{Request}
use Rattle.lx_abi.specs.declared.schedule.Event.{Event}
use Rattle.lx_model.specs.Kernel.{Script}
use Rattle.lx_proc.specs.declared.state.Shared.{Shared}
use Rattle.lx_proc.specs.declared.state.UserState.{UserState}
use Rattle.lx_boot.specs.Boots.{fault_of}
use Rattle.lx_boot.specs.First.{first_shared}
use Rattle.lx_exec.specs.Programs.{booted}
use Rattle.lx_turn.specs.Linux.{linux}
use Rattle.lx_sound.specs.Sound.{Sound, RunsSoundly}
use Rattle.pt_model.specs.Ptrace.{Host, host_turn}
use Rattle.pt_model.specs.Requests.{serve}
use Rattle.pt_model.specs.Parts.{Options}
use Rattle.pt_model.specs.World.{first_world, world_run}
use Rattle.pt_model.specs.Hosting.{Hosting, hosting_event, hosting_asked, first_hosting}

-- what processes share, and each process where it stands, held or not
abbrev pub HostIsSound : Host Shared UserState → Type 0
HostIsSound h = Sound h.shared (λ p. (h.procs p).task) h.child

-- a turn of any process keeps this
abbrev pub TurnsStaySound : Type 0
TurnsStaySound = (h : Host Shared UserState) (p : ℕ) → HostIsSound h → HostIsSound (host_turn linux h p)

-- so does a request that is served, whatever it asks and of whom
abbrev pub RequestsStaySound : Type 0
RequestsStaySound = (outcome : Shared → Outcome) (h : Host Shared UserState) (q : Request) → HostIsSound h →
    HostIsSound (serve linux outcome h q).host

-- so it holds in every world, under every script and all options, after any events
abbrev pub WorldsAreSound : Type 0
WorldsAreSound = (outcome : Shared → Outcome) (options : Options) (script : Script) (boot : Boot)
    (events : List Event) →
    fault_of boot ≡ None →
    HostIsSound (world_run linux outcome options script
    (first_world (first_shared boot.limits boot.files boot.input) (booted boot.argv boot.env)) events).host

-- what is done to the machine that code has: a request is put, unless another is pending, or an event comes
pub data Deed : Type 0 where
  Puts : Request → Deed
  Comes : Event → Deed

abbrev pub after : (Shared → Outcome) → Bool → Hosting Shared UserState → Deed → Hosting Shared UserState
after outcome follow v (Puts q) = unwrap_or (hosting_asked v q v.pending) v
after outcome follow v (Comes e) = (hosting_event linux outcome follow v e).hosting

abbrev pub after_all : (Shared → Outcome) → Bool → Hosting Shared UserState → List Deed → Hosting Shared UserState
after_all outcome follow v [] = v
after_all outcome follow v (d ∷ ds) = after_all outcome follow (after outcome follow v d) ds

-- the kernel in it stays sound, whoever asks
abbrev pub HostsAreSound : Type 0
HostsAreSound = (outcome : Shared → Outcome) (follow : Bool) (boot : Boot) (deeds : List Deed) → fault_of boot ≡ None →
    RunsSoundly (after_all outcome follow
    (first_hosting (first_shared boot.limits boot.files boot.input) (booted boot.argv boot.env)) deeds).running
