-- Which signals are pending, blocked and ignored, and which is taken next (signal(7)).
use Rattle.std.specs.Prelude.{ℕ, Bool, true, false, not, ◌&&◌, ◌||◌, ◌==◌, is_some, Option, Some, None, find, get_or, set, if◌then◌else◌}
use Rattle.std.specs.Option.{option_and_then}
use Rattle.std.specs.List.{range_with_len, list_any}
use Rattle.lx_abi.specs.declared.log.Cause.{Cause}
use Rattle.lx_abi.specs.declared.signal.Signal.{Signal}
use Rattle.lx_abi.specs.Signals.{is_stop, cont_number, signal_numbered}
use Rattle.lx_sig.specs.Sets.{has}
pub use Rattle.lx_sig.specs.declared.state.Action.{Action}
pub use Rattle.lx_sig.specs.declared.state.Job.{Job}
pub use Rattle.lx_sig.specs.declared.state.Job.TheVariants.{Free, AtStop}
pub use Rattle.lx_sig.specs.declared.state.Signals.{Signals}

-- an action that was never set
abbrev pub default : Action
default = record { handler = 0; flags = 0; mask = 0 }

abbrev pub action_of : Signals → ℕ → Action
action_of signals n = get_or signals.actions n default

-- why the signal with this number came first, where it is pending
abbrev pub cause_of : Signals → ℕ → Option Cause
cause_of signals n = get_or signals.pending n None

-- pending and not blocked
abbrev pub may_come : Signals → ℕ → Bool
may_come signals n = is_some (cause_of signals n) && not (has signals.mask n)

-- the lowest that is pending and not blocked, of 1 to 31
unfoldable pub next : Signals → Option Signal
next signals = option_and_then signal_numbered (find (may_come signals) (range_with_len 1 31))

-- SIGCHLD, SIGCONT, SIGURG and SIGWINCH are ignored by default (signal(7), "Standard signals")
abbrev pub is_ignored_by_default : ℕ → Bool
is_ignored_by_default n = (n == 17) || (n == 18) || (n == 23) || (n == 28)

-- SIG_IGN is 1, SIG_DFL 0
abbrev pub ignores : Action → ℕ → Bool
ignores a n = if a.handler == 0 then is_ignored_by_default n else a.handler == 1

abbrev pub is_ignored : Signals → ℕ → Bool
is_ignored signals n = ignores (action_of signals n) n

-- a call that blocks is interrupted where some signal is pending that is neither blocked nor ignored
unfoldable pub may_interrupt : Signals → Bool
may_interrupt signals = list_any (λ n. may_come signals n && not (is_ignored signals n)) (range_with_len 1 31)

-- Job control (signal(7); POSIX, "Signal Generation and Delivery").

abbrev pub with_job : Signals → Job → Signals
with_job signals job = record signals { job = job }

abbrev pub was_continued : Job → Bool
was_continued Free = false
was_continued (AtStop continued) = continued

-- SIGCONT was sent to the process since it took a stop signal, or was stopped
abbrev pub is_continued : Signals → Bool
is_continued signals = was_continued signals.job

-- it is at no stop signal any more
abbrev pub settled : Signals → Signals
settled signals = with_job signals Free

-- at a stop signal that is taken; any other is none
abbrev pub job_of : ℕ → Job
job_of n = if is_stop n then AtStop false else Free

abbrev pub continued : Job → Job
continued Free = Free
continued (AtStop c) = AtStop true

-- SIGCONT is noted, also where it is blocked, ignored or pending already
abbrev pub noticed : Signals → ℕ → Signals
noticed signals n = if n == cont_number then with_job signals (continued signals.job) else signals

abbrev pub dropped : Signals → ℕ → Signals
dropped signals n = record signals { pending = set signals.pending n None }

abbrev pub without_stops : Signals → Signals
without_stops signals = dropped (dropped (dropped (dropped signals 19) 20) 21) 22

-- a stop signal that is sent takes a pending SIGCONT away, and SIGCONT each pending stop signal
abbrev pub without_opposites : Signals → ℕ → Signals
without_opposites signals n =
    if is_stop n then dropped signals cont_number
    else if n == cont_number then without_stops signals
    else signals

-- a signal is pending at most once and keeps its first sender
abbrev pub added : Signals → ℕ → Cause → Signals
added signals n cause =
    if is_some (cause_of signals n) then signals
    else record signals { pending = set signals.pending n (Some cause) }

-- the signal with this number is sent
unfoldable pub sent : Signals → ℕ → Cause → Signals
sent signals n cause = noticed (added (without_opposites signals n) n cause) n

-- a signal is sent: by kill(2), by the kernel itself, or as SIGCHLD
abbrev pub with_pending : Signals → Signal → Cause → Signals
with_pending signals s cause = sent signals s.number cause

-- a signal is taken
abbrev pub without_pending : Signals → Signal → Signals
without_pending signals s = with_job (dropped signals s.number) (job_of s.number)
