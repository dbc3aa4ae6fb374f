-- Which replies a tracer admits: of a kind that answers its request, and fitting what it knows of the
-- tracee. Any other is a fault of the host.
use Rattle.std.specs.Prelude.{ℕ, ◌%◌, ◌==◌, nat_le, nat_lt, Bool, true, false, ◌&&◌, ◌||◌, length}
use Rattle.lx_abi.specs.declared.ptrace.Ask.{Ask}
use Rattle.lx_abi.specs.declared.ptrace.Ask.TheVariants.{Seize, SetOptions, GetRegs, SetRegs, Peek, Syscall, EventMsg, SigInfo, Listen}
use Rattle.lx_abi.specs.declared.ptrace.Reply.{Reply}
use Rattle.lx_abi.specs.declared.ptrace.Reply.TheVariants.{Done as Agreed, Status as Status_is, Registers as Registers_are, Bytes as Bytes_are, Message as Message_is, Info as Info_is, Outcome as Outcome_is, Errno as Errno_is, OutOfTurns as Out_of_turns, Refused as Boot_refused}
use Rattle.lx_abi.specs.declared.ptrace.Request.{Request}
use Rattle.lx_abi.specs.declared.ptrace.Request.TheVariants.{Boot as Boot_with, Wait, To, Outcome as Ask_outcome}
use Rattle.lx_abi.specs.declared.signal.Signal.{Signal}
use Rattle.lx_abi.specs.declared.status.EventStop.{EventStop}
use Rattle.lx_abi.specs.declared.status.EventStop.TheVariants.{Fork as At_fork, Exec as At_exec, Stop as At_start}
use Rattle.lx_abi.specs.declared.status.Stop.{Stop}
use Rattle.lx_abi.specs.declared.status.Stop.TheVariants.{Syscall as Syscall_stop, Signal as Signal_stop, Group as Group_stop, Event as Event_stop, Ended}
use Rattle.lx_abi.specs.Calls.{has_effects}
use Rattle.lx_abi.specs.Effects.{forks, execs, exits}
use Rattle.lx_abi.specs.Errnos.{esrch, eio}
use Rattle.lx_abi.specs.Signals.{is_signal}
pub use Rattle.pt_model.specs.declared.standing.Standing.{Standing}
pub use Rattle.pt_model.specs.declared.standing.Standing.TheVariants.{Unmet, Between, AfterSignal as After_signal, Halted, Unread, Read, AfterEvent as After_event, AtEnd as At_end}

-- Kinds

abbrev pub answers_ask : Ask → Reply → Bool
answers_ask (Seize options) Agreed = true
answers_ask (SetOptions options) Agreed = true
answers_ask GetRegs (Registers_are r) = true
answers_ask (SetRegs r) Agreed = true
answers_ask (Peek address length) (Bytes_are bytes) = true
answers_ask (Syscall signal) Agreed = true
answers_ask EventMsg (Message_is p) = true
answers_ask SigInfo (Info_is info) = true
answers_ask Listen Agreed = true
answers_ask q (Errno_is n) = true
answers_ask q Out_of_turns = true
answers_ask q r = false

-- the kinds of replies that answer a request
abbrev pub answers : Request → Reply → Bool
answers (Boot_with boot limit words) Agreed = true
answers (Boot_with boot limit words) (Boot_refused fault) = true
answers (Boot_with boot limit words) r = false
answers Wait (Status_is p status) = true
answers Wait (Errno_is n) = true
answers (To p q) r = answers_ask q r
answers Ask_outcome (Outcome_is outcome) = true
answers q Out_of_turns = true
answers q r = false

-- Replies to requests of one process

-- ESRCH, by SIGKILL, at every place but Seize; EIO where nothing is mapped at Peek's address
abbrev pub admits_errno : Ask → ℕ → Bool
admits_errno (Seize options) n = false
admits_errno (SetOptions options) n = n == esrch
admits_errno GetRegs n = n == esrch
admits_errno (SetRegs r) n = n == esrch
admits_errno (Peek address length) n = (n == esrch) || (n == eio)
admits_errno (Syscall signal) n = n == esrch
admits_errno EventMsg n = n == esrch
admits_errno SigInfo n = n == esrch
admits_errno Listen n = n == esrch

-- Bytes are at least one, and at most as many as were asked for
abbrev pub admits_answer : Ask → Reply → Bool
admits_answer (Seize options) Agreed = true
admits_answer (SetOptions options) Agreed = true
admits_answer GetRegs (Registers_are r) = true
admits_answer (SetRegs r) Agreed = true
admits_answer (Peek address most) (Bytes_are bytes) = nat_le 1 (length bytes) && nat_le (length bytes) most
admits_answer (Syscall signal) Agreed = true
admits_answer EventMsg (Message_is p) = true
admits_answer SigInfo (Info_is info) = true
admits_answer Listen Agreed = true
admits_answer q (Errno_is n) = admits_errno q n
admits_answer q Out_of_turns = true
admits_answer q r = false

-- Statuses

-- the registers at its call's entry were read
abbrev pub was_read : Standing → Bool
was_read Read = true
was_read After_event = true
was_read _ = false

-- WIFEXITED of wait(2)
abbrev pub is_exit_word : ℕ → Bool
is_exit_word word = (word % 256 == 0) && nat_lt word 65536

-- the event stop that a call of this number may come to
abbrev pub event_fits : Bool → ℕ → EventStop → Bool
event_fits follow number At_fork = follow && has_effects number forks
event_fits follow number At_exec = has_effects number execs
event_fits follow number At_start = false

-- SIGKILL ends a tracee everywhere, an exit only in its own call, unless that is replaced
abbrev pub end_fits : ℕ → Bool → Standing → ℕ → Bool
end_fits number replaced Unmet word = word == 9
end_fits number replaced Between word = word == 9
end_fits number replaced (After_signal signal) word = is_signal word
end_fits number replaced Halted word = word == 9
end_fits number replaced Unread word = word == 9
end_fits number true Read word = word == 9
end_fits number false Read word = (word == 9) || (has_effects number exits && is_exit_word word)
end_fits number replaced After_event word = word == 9
end_fits number replaced At_end word = false

-- a call's entry or exit
abbrev pub call_fits : Standing → Bool
call_fits Unmet = false
call_fits Between = true
call_fits (After_signal signal) = true
call_fits Halted = false
call_fits Unread = true
call_fits Read = true
call_fits After_event = true
call_fits At_end = false

abbrev pub signal_fits : Standing → Bool
signal_fits Unmet = false
signal_fits Between = true
signal_fits (After_signal signal) = true
signal_fits Halted = false
signal_fits Unread = false
signal_fits Read = false
signal_fits After_event = false
signal_fits At_end = false

-- a group stop comes after the stop of its signal alone
abbrev pub group_fits : Standing → Signal → Bool
group_fits Unmet signal = false
group_fits Between signal = false
group_fits (After_signal passed) signal = passed.number == signal.number
group_fits Halted signal = false
group_fits Unread signal = false
group_fits Read signal = false
group_fits After_event signal = false
group_fits At_end signal = false

abbrev pub is_start : EventStop → Bool
is_start At_start = true
is_start _ = false

-- the first stop of a tracee, the event of its call, or that its group stop has ended
abbrev pub event_stop_fits : Bool → ℕ → Standing → EventStop → Bool
event_stop_fits follow number Unmet event = is_start event
event_stop_fits follow number Between event = false
event_stop_fits follow number (After_signal signal) event = false
event_stop_fits follow number Halted event = is_start event
event_stop_fits follow number Unread event = false
event_stop_fits follow number Read event = event_fits follow number event
event_stop_fits follow number After_event event = false
event_stop_fits follow number At_end event = false

-- the stop may be told of a tracee with this standing, the number of its call, and whether that is replaced
abbrev pub stop_fits : Bool → ℕ → Bool → Standing → Stop → Bool
stop_fits follow number replaced standing (Syscall_stop good) = call_fits standing
stop_fits follow number replaced standing (Signal_stop signal) = signal_fits standing
stop_fits follow number replaced standing (Group_stop signal) = group_fits standing signal
stop_fits follow number replaced standing (Event_stop event) = event_stop_fits follow number standing event
stop_fits follow number replaced standing (Ended word) = end_fits number replaced standing word
