-- What kill(pid, sig) asks for: kill(2). Whether there is such a process is not looked at here.
use Rattle.std.specs.Prelude.{ℕ, ◌^◌, ◌==◌, ◌&&◌, ◌||◌, nat_lt, Option, Some, None, if◌then◌else◌}
use Rattle.lx_abi.specs.Signals.{signal_numbered, is_signal}
use Rattle.lx_abi.specs.declared.log.Call.{Call}
use Rattle.lx_sig.specs.Calls.{low_argument}
use Rattle.lx_sig.specs.declared.kill.Aim.{Aim}

-- a process, above 0 as a signed number; signal 0 asks only whether it is there
abbrev pub aimed : ℕ → ℕ → Option Aim
aimed pid n =
    if nat_lt 0 pid && nat_lt pid (2 ^ 31) && (n == 0 || is_signal n)
    then Some (record { pid = pid; signal = signal_numbered n })
    else None

-- none is EINVAL
abbrev pub aim : Call → Option Aim
aim call = aimed (low_argument call 0) (low_argument call 1)
