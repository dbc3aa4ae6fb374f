-- rt_sigprocmask(how, set, oldset, sigsetsize): sigprocmask(2).
use Rattle.std.specs.Prelude.{ℕ, ◌-◌, ◌^◌, ◌==◌, nat_le, Bool, true, not, bit_and, bit_or, Option, Some, None, if◌then◌else◌}
use Rattle.std.specs.Int.{w64, to_le_bytes, from_le_bytes}
use Rattle.std.specs.declared.result.Result.TheVariants.{Err}
use Rattle.rv_mem.specs.Memory.{Memory, bytes_at}
use Rattle.lx_abi.specs.Errnos.{efault, einval}
use Rattle.lx_abi.specs.declared.log.Call.{Call}
use Rattle.lx_sig.specs.Sets.{cleaned}
use Rattle.lx_sig.specs.Pending.{Signals}
use Rattle.lx_sig.specs.Calls.{argument, Outcome, is_unreadable, given, leaves}

-- the set that is to be used, where there is one
abbrev pub new_set : Memory → ℕ → Option ℕ
new_set m a = if a == 0 then None else Some (cleaned (from_le_bytes w64 (bytes_at m a 8)))

-- SIG_BLOCK is 0, SIG_UNBLOCK 1, SIG_SETMASK 2
abbrev pub may_mask : ℕ → Option ℕ → Bool
may_mask how None = true
may_mask how (Some set) = nat_le how 2

abbrev pub masked : ℕ → ℕ → ℕ → ℕ
masked mask how set =
    if how == 0 then bit_or mask set
    else if how == 1 then bit_and mask (2 ^ 64 - 1 - set)
    else set

abbrev pub with_mask : Signals → ℕ → Option ℕ → Signals
with_mask g how None = g
with_mask g how (Some set) = record g { mask = masked g.mask how set }

unfoldable pub mask_changed : Signals → Memory → ℕ → Option ℕ → ℕ → Outcome
mask_changed g m how new old =
    if may_mask how new then leaves (given m old (to_le_bytes w64 g.mask)) (with_mask g how new)
    else Err einval

unfoldable pub sigprocmask : Signals → Memory → Call → Outcome
sigprocmask g m call =
    if not (argument call 3 == 8) then Err einval
    else if is_unreadable m (argument call 1) 8 then Err efault
    else mask_changed g m (argument call 0) (new_set m (argument call 1)) (argument call 2)
