-- How a request is answered (ptrace(2), wait(2)).
use Rattle.std.specs.Prelude.{ℕ, ◌==◌, nat_le, Bool, true, false, cond, not, ◌&&◌, List, [], ◌∷◌, ◌++◌, Option, Some, None, filter}
use Rattle.lx_abi.specs.declared.log.Cause.{Cause}
use Rattle.lx_abi.specs.declared.log.Cause.TheVariants.{Sent, Kernel as By_kernel, Exited, Killed, Stopped as Child_stopped, Continued as Child_continued, Fault}
use Rattle.lx_abi.specs.declared.outcome.Outcome.{Outcome}
use Rattle.lx_abi.specs.declared.ptrace.Ask.{Ask}
use Rattle.lx_abi.specs.declared.ptrace.Ask.TheVariants.{Seize, SetOptions, GetRegs, SetRegs, Peek, Syscall, EventMsg, SigInfo, Listen}
use Rattle.lx_abi.specs.declared.ptrace.Info.{Info}
use Rattle.lx_abi.specs.declared.ptrace.Reply.{Reply}
use Rattle.lx_abi.specs.declared.ptrace.Reply.TheVariants.{Done as Agreed, Status as Status_is, Registers as Registers_are, Bytes as Bytes_are, Message as Message_is, Info as Info_is, Outcome as Outcome_is, Errno as Errno_is}
use Rattle.lx_abi.specs.declared.ptrace.Request.{Request}
use Rattle.lx_abi.specs.declared.ptrace.Request.TheVariants.{Boot as Boot_with, Wait, To, Outcome as Ask_outcome}
use Rattle.lx_abi.specs.declared.ptrace.TraceOptions.{TraceOptions}
use Rattle.lx_abi.specs.declared.signal.Signal.{Signal}
use Rattle.lx_abi.specs.declared.status.EventStop.TheVariants.{Stop as At_start}
use Rattle.lx_abi.specs.declared.status.Stop.{Stop}
use Rattle.lx_abi.specs.declared.status.Stop.TheVariants.{Syscall as Syscall_stop, Signal as Signal_stop, Group as Group_stop, Event as Event_stop, Ended}
use Rattle.lx_abi.specs.Errnos as errnos
use Rattle.lx_abi.specs.Limits.{most_peeked}
use Rattle.lx_abi.specs.Options.{trace_options}
use Rattle.lx_abi.specs.Signals.{cont_number}
use Rattle.lx_abi.specs.Status.{word_of}
use Rattle.lx_model.specs.Machine.{Machine}
use Rattle.lx_model.specs.declared.stage.Stage.{Stage}
use Rattle.lx_model.specs.declared.stage.Task.{Task}
use Rattle.lx_model.specs.declared.stage.Task.TheVariants.{Alive, Dying, Gone}
use Rattle.lx_model.specs.Kernel.{put}
use Rattle.lx_model.specs.Rows.{row}
use Rattle.pt_model.specs.Ptrace.{Proc, Report, Host}

-- The errors of errno(3) that requests have

abbrev pub esrch : Reply
esrch = Errno_is errnos.esrch

abbrev pub eio : Reply
eio = Errno_is errnos.eio

abbrev pub echild : Reply
echild = Errno_is errnos.echild

abbrev pub einval : Reply
einval = Errno_is errnos.einval

-- SigInfo: the siginfo_t of a taken signal (sigaction(2))

-- si_code: SI_USER, SI_KERNEL, CLD_EXITED, CLD_KILLED, CLD_STOPPED, CLD_CONTINUED, or the fault's own
abbrev pub code_of : Cause → ℕ
code_of (Sent p) = 0
code_of By_kernel = 0x80
code_of (Exited p v) = 1
code_of (Killed p v) = 2
code_of (Child_stopped p v) = 5
code_of (Child_continued p) = 6
code_of (Fault code a) = code

abbrev pub sender_of : Cause → ℕ
sender_of (Sent p) = p
sender_of By_kernel = 0
sender_of (Exited p v) = p
sender_of (Killed p v) = p
sender_of (Child_stopped p v) = p
sender_of (Child_continued p) = p
sender_of (Fault code a) = 0

abbrev pub status_of : Cause → ℕ
status_of (Sent p) = 0
status_of By_kernel = 0
status_of (Exited p v) = v
status_of (Killed p v) = v
status_of (Child_stopped p v) = v
status_of (Child_continued p) = cont_number
status_of (Fault code a) = 0

abbrev pub address_of : Cause → ℕ
address_of (Fault code a) = a
address_of _ = 0

abbrev pub info_of : Signal → Cause → Info
info_of signal cause = record {
  signal = signal.number;
  code = code_of cause;
  pid = sender_of cause;
  status = status_of cause;
  address = address_of cause;
}

-- at another stop than a signal's the answer is EINVAL
abbrev pub info_reply : Option (Signal × Cause) → Reply
info_reply None = einval
info_reply (Some i) = Info_is (info_of i.0 i.1)

abbrev pub info_at : Stage → Reply
info_at stage = info_reply (row stage).info

-- One process

-- what a request to a process leaves of it, and its reply
pub record Answered (B : Type 0) : Type 0 where
  pub proc : Proc B
  pub reply : Reply
  -- it has become a tracee, and its EVENT_STOP is reported
  pub seized : Bool

abbrev pub says : {B : Type 0} → Proc B → Reply → Answered B
says t r = record { proc = t; reply = r; seized = false }

-- it is let go, from this stage
abbrev pub let_go : {B : Type 0} → Proc B → B → Stage → Answered B
let_go t b stage = says (record { task = Alive b stage; held = false; options = t.options }) Agreed

-- Syscall and Listen: where it may not be let go, EIO
abbrev pub goes_from : {B : Type 0} → Proc B → B → Option Stage → Answered B
goes_from t b None = says t eio
goes_from t b (Some stage) = let_go t b stage

abbrev pub may_peek : ℕ → Bool
may_peek n = nat_le 1 n && nat_le n most_peeked

abbrev pub peeked : List ℕ → Reply
peeked [] = eio
peeked (x ∷ bytes) = Bytes_are (x ∷ bytes)

abbrev pub set_options : {B : Type 0} → Proc B → Option TraceOptions → Answered B
set_options t None = says t einval
set_options t (Some w) = says (record { task = t.task; held = t.held; options = Some w }) Agreed

-- a held tracee that lives; its message is EventMsg's
abbrev pub stopped : {S B : Type 0} → Machine S B → Proc B → B → Stage → ℕ → Ask → Answered B
stopped m t b stage message (Seize options) = says t esrch
stopped m t b stage message (SetOptions options) = set_options t (trace_options options)
stopped m t b stage message GetRegs = says t (Registers_are (m.regs b))
stopped m t b stage message (SetRegs r) =
    says (record { task = Alive (m.with_regs b r) stage; held = t.held; options = t.options }) Agreed
stopped m t b stage message (Peek address length) =
    says t (cond (may_peek length) (peeked (m.peek b address length)) einval)
stopped m t b stage message (Syscall n) = goes_from t b ((row stage).resume n)
stopped m t b stage message EventMsg = says t (Message_is message)
stopped m t b stage message SigInfo = says t (info_at stage)
stopped m t b stage message Listen = goes_from t b (row stage).listen

abbrev pub seize : {B : Type 0} → Proc B → Option TraceOptions → Answered B
seize t None = says t einval
seize t (Some w) = record {
  proc = record { task = t.task; held = t.held; options = Some w };
  reply = Agreed;
  seized = true;
}

-- held, and no tracee: process 1 before Seize, the one process that can be seized
abbrev pub unseized : {B : Type 0} → Proc B → Ask → Answered B
unseized t (Seize options) = seize t (trace_options options)
unseized t (SetOptions options) = says t esrch
unseized t GetRegs = says t esrch
unseized t (SetRegs r) = says t esrch
unseized t (Peek address length) = says t esrch
unseized t (Syscall n) = says t esrch
unseized t EventMsg = says t esrch
unseized t SigInfo = says t esrch
unseized t Listen = says t esrch

-- ESRCH comes before any other refusal: the process is not held, not a tracee, or ending
abbrev pub answer_at :
    {S B : Type 0} → Machine S B → ℕ → Proc B → Bool → Option TraceOptions → Task B → Ask → Answered B
answer_at m message t true (Some w) (Alive b stage) q = stopped m t b stage message q
answer_at m message t true (Some w) (Dying word) q = says t esrch
answer_at m message t true (Some w) Gone q = says t esrch
answer_at m message t true None task q = unseized t q
answer_at m message t false w task q = says t esrch

abbrev pub answer : {S B : Type 0} → Machine S B → ℕ → Proc B → Ask → Answered B
answer m message t q = answer_at m message t t.held t.options t.task q

abbrev pub answered : {S B : Type 0} → Host S B → ℕ → Answered B → Host S B
answered h p a = record {
  shared = h.shared;
  procs = put h.procs p a.proc;
  queue = cond a.seized (h.queue ++ record { pid = p; stop = Event_stop At_start } ∷ []) h.queue;
  tracees = cond a.seized (h.tracees ++ p ∷ []) h.tracees;
  messages = h.messages;
  child = h.child;
}

-- Wait

abbrev pub with_queue : {S B : Type 0} → Host S B → List Report → Host S B
with_queue h queue = record {
  shared = h.shared;
  procs = h.procs;
  queue = queue;
  tracees = h.tracees;
  messages = h.messages;
  child = h.child;
}

-- the first report is taken; a process whose end was told is no tracee any more, and goes on to its zombie
abbrev pub take_report : {S B : Type 0} → Host S B → List Report → ℕ → Stop → Host S B
take_report h rest p (Syscall_stop good) = with_queue h rest
take_report h rest p (Signal_stop signal) = with_queue h rest
take_report h rest p (Group_stop signal) = with_queue h rest
take_report h rest p (Event_stop event) = with_queue h rest
take_report h rest p (Ended word) = record {
  shared = h.shared;
  procs = put h.procs p (record { task = (h.procs p).task; held = false; options = (h.procs p).options });
  queue = rest;
  tracees = filter (λ q. not (p == q)) h.tracees;
  messages = h.messages;
  child = h.child;
}

pub record Served (S B : Type 0) : Type 0 where
  pub host : Host S B
  -- none where Wait stays pending
  pub reply : Option Reply

abbrev pub told : ℕ → Stop → Reply
told p stop = Status_is p (record { word = word_of stop })

-- the first report; with none, ECHILD if no tracee is left
abbrev pub serve_wait : {S B : Type 0} → Host S B → List Report → List ℕ → Served S B
serve_wait h [] [] = record { host = h; reply = Some echild }
serve_wait h [] (q ∷ qs) = record { host = h; reply = None }
serve_wait h (r ∷ rest) qs = record { host = take_report h rest r.pid r.stop; reply = Some (told r.pid r.stop) }

-- A request is served whole. The outcome is a function of what processes share. A boot is no request of
-- a host that runs.
abbrev pub serve : {S B : Type 0} → Machine S B → (S → Outcome) → Host S B → Request → Served S B
serve m outcome h (Boot_with boot limit words) = record { host = h; reply = None }
serve m outcome h Wait = serve_wait h h.queue h.tracees
serve m outcome h (To p q) = record {
  host = answered h p (answer m (h.messages p) (h.procs p) q);
  reply = Some (answer m (h.messages p) (h.procs p) q).reply;
}
serve m outcome h Ask_outcome = record { host = h; reply = Some (Outcome_is (outcome h.shared)) }
