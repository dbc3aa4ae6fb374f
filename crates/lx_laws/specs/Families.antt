-- Parents and children (wait(2), getppid(2), credentials(7)).
use Rattle.std.specs.Prelude.{◌≡◌, ℕ, ◌<◌, ◌⊎◌, Bool, true, false, not, List, Option, Some, None}
use Rattle.std.specs.FinMap as maps
use Rattle.lx_abi.specs.declared.boot.Boot.{Boot}
use Rattle.lx_model.specs.Kernel.{Script, Kernel, first_kernel, kernel_turn, kernel_run}
use Rattle.lx_proc.specs.declared.state.Entry.{Entry}
use Rattle.lx_proc.specs.declared.state.Shared.{Shared}
use Rattle.lx_proc.specs.declared.state.UserState.{UserState}
use Rattle.lx_proc.specs.Families.{is_zombie}
use Rattle.lx_proc.specs.State.{Entries}
use Rattle.lx_boot.specs.Boots.{fault_of}
use Rattle.lx_boot.specs.First.{first_shared}
use Rattle.lx_exec.specs.Programs.{booted}
use Rattle.lx_turn.specs.Linux.{linux}
use Rattle.lx_sound.specs.Parts.{is_alive}
use Rattle.lx_sound.specs.Sound.{IsSound}

-- the process lives, or is dying
abbrev pub has_not_ended : Option Entry → Bool
has_not_ended None = false
has_not_ended (Some e) = not (is_zombie e.life)

-- an orphan has parent 0; each other parent has not ended, and was there before its child
abbrev pub IsParent : Entries → ℕ → ℕ → Type 0
IsParent m parent child = (parent ≡ 0) ⊎ ((parent < child) × (has_not_ended (maps.get m parent) ≡ true))

pub record AreFamilies (m : Entries) : Type 0 where
  pub parents : (p : ℕ) (e : Entry) → maps.get m p ≡ Some e → IsParent m e.parent p
  -- 0 is the pid of nobody
  pub nobody : maps.get m 0 ≡ None
  -- a zombie has a parent, so somebody can wait for it
  pub zombies : (p : ℕ) (e : Entry) → maps.get m p ≡ Some e → is_zombie e.life ≡ true → (e.parent ≡ 0 → ⊥)
  -- a stop or a waking is left to tell of who lives alone
  pub news : (p : ℕ) (e : Entry) → maps.get m p ≡ Some e → is_alive e.life ≡ false → e.news ≡ None

-- a turn of any process keeps this, under every script
abbrev pub TurnsKeepFamilies : Type 0
TurnsKeepFamilies = (script : Script) (follow : Bool) (k : Kernel Shared UserState) (p : ℕ) → IsSound k →
    AreFamilies k.shared.entries → AreFamilies (kernel_turn linux script follow k p).shared.entries

-- so it holds after any turns, from a boot that isn't refused
abbrev pub KernelsHaveFamilies : Type 0
KernelsHaveFamilies = (script : Script) (follow : Bool) (boot : Boot) (pids : List ℕ) → fault_of boot ≡ None →
    AreFamilies (kernel_run linux script follow
    (first_kernel (first_shared boot.limits boot.files boot.input) (booted boot.argv boot.env)) pids).shared.entries
