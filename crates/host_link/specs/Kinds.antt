-- The kinds of replies, and which of them answer a request.
use Rattle.std.specs.Prelude.{ℕ, ◌==◌, ◌||◌, Bool}
use Rattle.lx_abi.specs.declared.ptrace.Ask.{Ask}
use Rattle.lx_abi.specs.declared.ptrace.Ask.TheVariants.{Seize, SetOptions, GetRegs, SetRegs, Peek, Syscall, EventMsg, SigInfo, Listen}
use Rattle.lx_abi.specs.declared.ptrace.Reply.{Reply}
use Rattle.lx_abi.specs.declared.ptrace.Reply.TheVariants as reply
use Rattle.lx_abi.specs.declared.ptrace.Request.{Request}
use Rattle.lx_abi.specs.declared.ptrace.Request.TheVariants as request
use Rattle.host_link.specs.declared.fits.Kind.{Kind}
use Rattle.host_link.specs.declared.fits.Kind.TheVariants.{Done, Status, Registers, Bytes, Message, Info, Outcome, Errno, OutOfTurns, Refused}

abbrev pub kind_of : Reply → Kind
kind_of reply.Done = Done
kind_of (reply.Status pid status) = Status
kind_of (reply.Registers r) = Registers
kind_of (reply.Bytes bytes) = Bytes
kind_of (reply.Message pid) = Message
kind_of (reply.Info info) = Info
kind_of (reply.Outcome outcome) = Outcome
kind_of (reply.Errno n) = Errno
kind_of reply.OutOfTurns = OutOfTurns
kind_of (reply.Refused fault) = Refused

abbrev pub kind_wanted : Ask → Kind
kind_wanted (Seize options) = Done
kind_wanted (SetOptions options) = Done
kind_wanted GetRegs = Registers
kind_wanted (SetRegs r) = Done
kind_wanted (Peek address length) = Bytes
kind_wanted (Syscall signal) = Done
kind_wanted EventMsg = Message
kind_wanted SigInfo = Info
kind_wanted Listen = Done

abbrev place : Kind → ℕ
place Done = 0
place Status = 1
place Registers = 2
place Bytes = 3
place Message = 4
place Info = 5
place Outcome = 6
place Errno = 7
place OutOfTurns = 8
place Refused = 9

abbrev pub is_kind : Kind → Kind → Bool
is_kind a b = place a == place b

abbrev pub is_answer : Request → Kind → Bool
is_answer (request.Boot boot limit words) kind = is_kind kind Done || is_kind kind Refused
is_answer request.Wait kind = is_kind kind Status || is_kind kind Errno || is_kind kind OutOfTurns
is_answer (request.To pid ask) kind = is_kind kind (kind_wanted ask) || is_kind kind Errno || is_kind kind OutOfTurns
is_answer request.Outcome kind = is_kind kind Outcome || is_kind kind OutOfTurns
