-- What instructions and signals do to the state.
use Rattle.std.specs.Prelude.{◌≡◌, ℕ, Bool, true, false, is_some, Option, Some, None, refl}
use Rattle.std.specs.Option.{unwrap_or}
use Rattle.std.specs.FinMap as maps
use Rattle.rv_hart.specs.declared.outcome.FaultKind.{FaultKind}
use Rattle.rv_hart.specs.declared.outcome.FaultKind.TheVariants as fault
use Rattle.rv_hart.specs.declared.outcome.Step.{Step}
use Rattle.rv_hart.specs.declared.outcome.Step.TheVariants as step
use Rattle.rv_hart.specs.Faults.{signal_number, signal_code}
use Rattle.rv_hart.specs.Steps.{Outcome, stepped}
use Rattle.lx_abi.specs.declared.log.Cause.{Cause}
use Rattle.lx_abi.specs.declared.log.Cause.TheVariants.{Kernel, Fault}
use Rattle.lx_abi.specs.declared.signal.Signal.{Signal}
use Rattle.lx_abi.specs.Signals.{is_signal}
use Rattle.lx_model.specs.Machine.{Ran, Goes, Calls, Faults, Takes}
use Rattle.lx_sig.specs.Pending.{next, cause_of, without_pending}
use Rattle.lx_proc.specs.declared.state.Shared.{Shared}
use Rattle.lx_proc.specs.declared.state.UserState.{UserState}
use Rattle.lx_proc.specs.declared.state.Entry.{Entry}
use Rattle.lx_sig.specs.declared.state.Interrupted.{Interrupted}
use Rattle.lx_proc.specs.State.{changed, with_entries, with_signals}
use Rattle.lx_proc.specs.Sending.{sent}
use Rattle.lx_proc.specs.Registers.{made_again}

-- Run

pub fault_in_range : (k : FaultKind) → is_signal (signal_number k) ≡ true
fault_in_range fault.Misaligned = refl
fault_in_range fault.Illegal = refl
fault_in_range fault.Breakpoint = refl
fault_in_range fault.Unmapped = refl
fault_in_range fault.Forbidden = refl

-- how a process is told of a fault
abbrev pub fault_signal : FaultKind → Signal
fault_signal k = record { number = signal_number k; in_range = fault_in_range k }

abbrev pub ran_by : UserState → Outcome → Step → Ran Shared UserState
ran_by b o step.Ran = Goes (record b { hart = o.hart; memory = o.memory })
ran_by b o step.Call = Calls
ran_by b o (step.Fault kind address) = Faults (fault_signal kind) (Fault (signal_code kind) address)

-- one instruction (the RISC-V Unprivileged ISA)
abbrev pub stepped_by : UserState → Ran Shared UserState
stepped_by b = ran_by b (stepped b.hart b.memory) (stepped b.hart b.memory).step

abbrev pub resumed : UserState → Option Interrupted → Ran Shared UserState
resumed b (Some at) = Goes (made_again b at)
resumed b None = stepped_by b

-- Signals (signal(7))

-- the signal that the process would take
abbrev pub next_of : Option Entry → Option Signal
next_of None = None
next_of (Some e) = next e.signals

abbrev pub cause_in : Option Entry → Signal → Cause
cause_in None signal = Kernel
cause_in (Some e) signal = unwrap_or (cause_of e.signals signal.number) Kernel

-- the signal is no longer pending, and its cause is that of its first sender
abbrev pub taken : Shared → ℕ → Signal → Shared
taken s p signal = with_entries s (changed s.entries p (λ e. with_signals e (without_pending e.signals signal)))

abbrev pub runs : Shared → ℕ → UserState → Option Signal → Ran Shared UserState
runs s p b (Some signal) = Takes (taken s p signal) signal (cause_in (maps.get s.entries p) signal)
runs s p b None = resumed b b.interrupted

abbrev pub is_killed : Option Entry → Bool
is_killed None = false
is_killed (Some e) = is_some (cause_of e.signals 9)

abbrev pub joined : Shared → ℕ → Signal → Shared
joined s p signal = with_entries s (sent s.entries p signal Kernel)
