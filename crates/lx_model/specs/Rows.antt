-- What the kernel and a tracer ask of where a living process stands: a row a stage. What its turn does is `lives` of
-- Turn.
use Rattle.std.specs.Prelude.{ℕ, ◌==◌, ◌||◌, Bool, cond, Option, Some, None}
use Rattle.lx_abi.specs.declared.log.Cause.{Cause}
use Rattle.lx_abi.specs.declared.log.Mode.{Mode}
use Rattle.lx_abi.specs.declared.log.Mode.TheVariants as mode
use Rattle.lx_abi.specs.declared.signal.Signal.{Signal}
use Rattle.lx_abi.specs.declared.status.EventStop.TheVariants.{Stop as At_start}
use Rattle.lx_abi.specs.declared.status.Stop.{Stop}
use Rattle.lx_abi.specs.declared.status.Stop.TheVariants.{Syscall as Syscall_stop, Signal as Signal_stop}
use Rattle.lx_abi.specs.declared.status.Stop.TheVariants.{Group as Group_stop, Event as Event_stop}
use Rattle.lx_abi.specs.Signals.{is_signal, signal_numbered}
use Rattle.lx_model.specs.declared.stage.Stage.{Stage}
use Rattle.lx_model.specs.declared.stage.Stage.TheVariants.{Born, Run, Faulting, Entered, Doing, Replaced, Acted, Finished, Taken, Dropped, Stopped, Released, Woken}

pub record Row : Type 0 where
  pub mode : Mode
  -- the stop of a tracee whose turn has come here: with TRACESYSGOOD, the stop of its call's event where that is
  -- asked for, and whether the turn was logged (ptrace(2), "Syscall-stops", "Signal-delivery-stop", "Group-stop",
  -- "PTRACE_EVENT stops")
  pub stop : Bool → Option Stop → Bool → Option Stop
  -- what SigInfo tells; none is EINVAL
  pub info : Option (Signal × Cause)
  -- from where it goes on by Syscall with a signal's number, 0 for none; none is EIO
  pub resume : ℕ → Option Stage
  -- where it stays by Listen; none is EIO
  pub listen : Option Stage

-- no signal is joined
abbrev pub plainly : Stage → ℕ → Option Stage
plainly stage n = cond (n == 0) (Some stage) None

-- a stage at which a tracee is in no stop of its own
abbrev pub passing : Mode → Stage → Row
passing m stage =
    record { mode = m; stop = λ good event logged. None; info = None; resume = plainly stage; listen = None }

abbrev pub syscall_stop : Bool → Option Stop → Bool → Option Stop
syscall_stop good event logged = Some (Syscall_stop good)

abbrev pub event_stop : Bool → Option Stop → Bool → Option Stop
event_stop good event logged = event

abbrev pub always : Stop → Bool → Option Stop → Bool → Option Stop
always stop good event logged = Some stop

-- reached where it is logged: a process that stays here is not told of again
abbrev pub once : Stop → Bool → Option Stop → Bool → Option Stop
once stop good event logged = cond logged (Some stop) None

-- a signal is joined
abbrev pub joining : ℕ → Option Stage
joining n = cond ((n == 0) || is_signal n) (Some (Entered (signal_numbered n))) None

-- its own number passes the signal on, 0 drops it
abbrev pub passing_on : Signal → Cause → ℕ → Option Stage
passing_on signal cause n = cond (signal.number == n) (Some (Taken signal cause)) (plainly Dropped n)

abbrev pub row : Stage → Row
row Born = passing mode.Born Born
row Run = passing mode.Run Run
row (Faulting signal cause) = passing mode.Faulting (Faulting signal cause)
row (Entered joined) = record (passing mode.Entered (Entered joined)) { stop = syscall_stop; resume = joining }
row (Doing call) = passing mode.Doing (Doing call)
row (Replaced call result) = passing mode.Doing (Replaced call result)
row (Acted call result replaced) = record (passing mode.Acted (Acted call result replaced)) { stop = event_stop }
row Finished = record (passing mode.Finished Finished) { stop = syscall_stop }
row (Taken signal cause) = record (passing mode.Taken Dropped) {
  stop = always (Signal_stop signal);
  info = Some (signal, cause);
  resume = passing_on signal cause;
}
row Dropped = passing mode.Taken Dropped
row (Stopped signal) = record (passing mode.Stopped Released) {
  stop = once (Group_stop signal);
  listen = Some (Stopped signal);
}
row Released = record (passing mode.Stopped Released) { listen = Some Released }
row Woken = record (passing mode.Woken Woken) { stop = always (Event_stop At_start) }

abbrev pub stage_mode : Stage → Mode
stage_mode stage = (row stage).mode
