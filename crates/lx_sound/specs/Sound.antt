-- What holds in every state that a boot reaches.
use Rattle.std.specs.Prelude.{◌≡◌, ℕ, suc, ◌≤◌, max, Bool, List, Option, Some, None}
use Rattle.std.specs.FinMap as maps
use Rattle.lx_abi.specs.declared.boot.Boot.{Boot}
use Rattle.lx_abi.specs.declared.script.Rule.{Rule}
use Rattle.lx_model.specs.Kernel.{Script, Kernel, first_kernel, kernel_turn, kernel_run}
use Rattle.lx_model.specs.Finite.{at, Running}
use Rattle.lx_model.specs.declared.stage.Task.{Task}
use Rattle.lx_model.specs.declared.stage.Task.TheVariants as task
use Rattle.lx_proc.specs.declared.state.Entry.{Entry}
use Rattle.lx_proc.specs.declared.state.Life.{Life}
use Rattle.lx_proc.specs.declared.state.Life.TheVariants.{Alive, Dying, Zombie}
use Rattle.lx_proc.specs.declared.state.Shared.{Shared}
use Rattle.lx_proc.specs.declared.state.UserState.{UserState}
use Rattle.lx_proc.specs.WaitWords.{Words}
use Rattle.lx_boot.specs.Boots.{fault_of}
use Rattle.lx_boot.specs.First.{first_shared}
use Rattle.lx_exec.specs.Programs.{booted}
use Rattle.lx_turn.specs.Linux.{linux}
use Rattle.lx_kernel.specs.First.{first_run}
use Rattle.lx_kernel.specs.Laws.{after_all}
use Rattle.lx_sound.specs.Pages.{IsSmall}
use Rattle.lx_sound.specs.Parts.{PartsSound}

-- a process's entry and its own part agree on whether it lives, is dying, and with which word, or is gone
abbrev pub Agree : Option Entry → Task UserState → Type 0
Agree (Some e) (task.Alive b stage) = e.life ≡ Alive
Agree (Some e) (task.Dying w) = e.life ≡ Dying w
Agree (Some e) task.Gone = (w : ℕ) × (e.life ≡ Zombie w)
Agree None (task.Alive b stage) = ⊥
Agree None (task.Dying w) = ⊥
Agree None task.Gone = Unit {0}

-- the word of who is dying or has died is kept
abbrev pub HasWord : Words → ℕ → Life → Type 0
HasWord words p Alive = Unit {0}
HasWord words p (Dying w) = maps.get words p ≡ Some w
HasWord words p (Zombie w) = maps.get words p ≡ Some w

pub record Sound (s : Shared) (tasks : ℕ → Task UserState) (child : ℕ) : Type 0 where
  pub parts : PartsSound s
  pub agree : (p : ℕ) → Agree (maps.get s.entries p) (tasks p)
  pub words : (p : ℕ) (e : Entry) → maps.get s.entries p ≡ Some e → HasWord s.ended p e.life
  -- no process is under the next pid, nor under any above it
  pub pids : (p : ℕ) → child ≤ p → maps.get s.entries p ≡ None
  -- there are no more processes than the boot allows, zombies among them, and no higher pids; process 1 there always is
  pub live : maps.len s.entries ≤ max 1 s.limits.live
  pub last : child ≤ suc (max 1 s.limits.last_pid)
  -- no process has more than 16,384 pages of memory
  pub pages : (p : ℕ) → IsSmall (tasks p)

-- of the untraced kernel of the definitions, and of the kernel that code has
abbrev pub IsSound : Kernel Shared UserState → Type 0
IsSound k = Sound k.shared k.tasks k.child

abbrev pub RunsSoundly : Running Shared UserState → Type 0
RunsSoundly v = Sound v.shared (at task.Gone v.tasks) v.child

-- a turn of any process keeps this, under every script
abbrev pub TurnsStaySound : Type 0
TurnsStaySound = (script : Script) (follow : Bool) (k : Kernel Shared UserState) (p : ℕ) → IsSound k →
    IsSound (kernel_turn linux script follow k p)

-- so it holds after any turns of the untraced kernel, from a boot that isn't refused
abbrev pub KernelsAreSound : Type 0
KernelsAreSound = (script : Script) (follow : Bool) (boot : Boot) (pids : List ℕ) → fault_of boot ≡ None →
    IsSound (kernel_run linux script follow
    (first_kernel (first_shared boot.limits boot.files boot.input) (booted boot.argv boot.env)) pids)

-- and after any turns of a boot
abbrev pub BootsAreSound : Type 0
BootsAreSound = (boot : Boot) (script : List Rule) (pids : List ℕ) → fault_of boot ≡ None →
    RunsSoundly (after_all (first_run boot script) pids).running
