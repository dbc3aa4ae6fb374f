-- How a process gets a signal.
use Rattle.std.specs.Prelude.{ℕ}
use Rattle.lx_abi.specs.declared.log.Cause.{Cause}
use Rattle.lx_abi.specs.declared.signal.Signal.{Signal}
use Rattle.lx_sig.specs.Pending.{with_pending}
use Rattle.lx_proc.specs.State.{Entry, Entries, changed, with_signals}

-- the signal is pending to the process, unless it was: then its first cause stays
abbrev pub receives : Entry → Signal → Cause → Entry
receives e signal cause = with_signals e (with_pending e.signals signal cause)

-- a process that isn't there receives nothing
abbrev pub sent : Entries → ℕ → Signal → Cause → Entries
sent entries p signal cause = changed entries p (λ e. receives e signal cause)
