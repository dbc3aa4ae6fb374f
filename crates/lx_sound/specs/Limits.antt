-- How many processes there may be stays as the boot asked.
use Rattle.std.specs.Prelude.{◌≡◌, ℕ, Bool, List, None}
use Rattle.lx_abi.specs.declared.boot.Boot.{Boot}
use Rattle.lx_model.specs.Kernel.{Script, Kernel, first_kernel, kernel_turn, kernel_run}
use Rattle.lx_proc.specs.declared.state.Shared.{Shared}
use Rattle.lx_proc.specs.declared.state.UserState.{UserState}
use Rattle.lx_proc.specs.State.{limits_of}
use Rattle.lx_boot.specs.Boots.{fault_of}
use Rattle.lx_boot.specs.First.{first_shared}
use Rattle.lx_exec.specs.Programs.{booted}
use Rattle.lx_turn.specs.Linux.{linux}
use Rattle.lx_sound.specs.Sound.{IsSound}

-- no turn changes them
abbrev pub LimitsStay : Type 0
LimitsStay = (script : Script) (follow : Bool) (k : Kernel Shared UserState) (p : ℕ) → IsSound k →
    (kernel_turn linux script follow k p).shared.limits ≡ k.shared.limits

-- so they are the boot's, after any turns
abbrev pub KernelsKeepLimits : Type 0
KernelsKeepLimits = (script : Script) (follow : Bool) (boot : Boot) (pids : List ℕ) → fault_of boot ≡ None →
    (kernel_run linux script follow
    (first_kernel (first_shared boot.limits boot.files boot.input) (booted boot.argv boot.env)) pids).shared.limits
    ≡ limits_of boot.limits
