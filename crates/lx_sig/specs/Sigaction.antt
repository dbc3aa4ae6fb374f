-- rt_sigaction(signum, act, oldact, sigsetsize): sigaction(2). An action is 24 bytes: handler, flags, mask.
use Rattle.std.specs.Prelude.{ℕ, ◌==◌, ◌&&◌, Bool, not, List, [], ◌∷◌, set, bit_and, Option, Some, None, if◌then◌else◌}
use Rattle.std.specs.declared.result.Result.TheVariants.{Err}
use Rattle.rv_mem.specs.Memory.{Memory, bytes_at}
use Rattle.lx_abi.specs.Errnos.{efault, einval}
use Rattle.lx_abi.specs.Signals.{is_signal}
use Rattle.lx_abi.specs.declared.log.Call.{Call}
use Rattle.lx_sig.specs.Sets.{cleaned}
use Rattle.lx_sig.specs.Pending.{Action, Signals, action_of}
use Rattle.lx_sig.specs.Doublewords.{doublewords, word_of}
use Rattle.lx_sig.specs.Calls.{argument, low_argument, Outcome, is_unreadable, given, leaves}

-- other than SA_SIGINFO 4, SA_RESTART 0x10000000 and SA_NODEFER 0x40000000
abbrev pub has_other_flags : ℕ → Bool
has_other_flags flags = not (bit_and flags 0xFFFFFFFFAFFFFFFB == 0)

abbrev pub action_in : List ℕ → Action
action_in bytes = record { handler = word_of bytes 0; flags = word_of bytes 1; mask = cleaned (word_of bytes 2) }

-- the action that is to be set, where there is one
abbrev pub new_action : Memory → ℕ → Option Action
new_action m a = if a == 0 then None else Some (action_in (bytes_at m a 24))

-- the signals that have an action are those that kill(2) takes; SIGKILL's and SIGSTOP's can't be set, nor can other
-- flags
abbrev pub may_set : ℕ → Option Action → Bool
may_set n None = is_signal n
may_set n (Some a) = is_signal n && not (n == 9) && not (n == 19) && not (has_other_flags a.flags)

abbrev pub with_action : Signals → ℕ → Option Action → Signals
with_action g n None = g
with_action g n (Some a) = record g { actions = set g.actions n a }

abbrev pub action_bytes : Action → List ℕ
action_bytes a = doublewords (a.handler ∷ a.flags ∷ a.mask ∷ [])

unfoldable pub acted : Signals → Memory → ℕ → Option Action → ℕ → Outcome
acted g m n new old =
    if may_set n new then leaves (given m old (action_bytes (action_of g n))) (with_action g n new)
    else Err einval

unfoldable pub sigaction : Signals → Memory → Call → Outcome
sigaction g m call =
    if not (argument call 3 == 8) then Err einval
    else if is_unreadable m (argument call 1) 24 then Err efault
    else acted g m (low_argument call 0) (new_action m (argument call 1)) (argument call 2)
