-- The ptrace machine as a value that code can have: the kernel under the empty script, and what a tracer has to
-- do with its processes.
use Rattle.std.specs.Prelude.{◌≡◌, ℕ, ◌==◌, ◌≤◌, Bool, true, false, cond, not, List, [], ◌∷◌, ◌++◌, Option, Some, None, filter}
use Rattle.std.specs.Ordering.{nat_cmp}
use Rattle.std.specs.FinMap as maps
use Rattle.lx_abi.specs.declared.log.Item.{Item}
use Rattle.lx_abi.specs.declared.log.Item.TheVariants.{Taken as Signalled, Stopped as Halts, Exit}
use Rattle.lx_abi.specs.declared.log.Mode.{Mode}
use Rattle.lx_abi.specs.declared.log.Mode.TheVariants as mode
use Rattle.lx_abi.specs.declared.outcome.Outcome.{Outcome}
use Rattle.lx_abi.specs.declared.ptrace.Ask.{Ask}
use Rattle.lx_abi.specs.declared.ptrace.Reply.{Reply}
use Rattle.lx_abi.specs.declared.ptrace.Reply.TheVariants.{Outcome as Outcome_is}
use Rattle.lx_abi.specs.declared.ptrace.Request.{Request}
use Rattle.lx_abi.specs.declared.ptrace.Request.TheVariants.{Boot as Boot_with, Wait, To, Outcome as Ask_outcome}
use Rattle.lx_abi.specs.declared.schedule.Event.{Event as Step}
use Rattle.lx_abi.specs.declared.schedule.Event.TheVariants.{Turn, Serve}
use Rattle.lx_abi.specs.declared.status.EventStop.TheVariants.{Stop as At_start}
use Rattle.lx_abi.specs.declared.status.Stop.{Stop}
use Rattle.lx_abi.specs.declared.status.Stop.TheVariants.{Syscall as Syscall_stop, Signal as Signal_stop, Group as Group_stop, Event as Event_stop, Ended}
use Rattle.lx_abi.specs.Log.{Noted}
use Rattle.lx_abi.specs.Scripts.{no_choice}
use Rattle.lx_model.specs.Events.{by_pid}
use Rattle.lx_model.specs.Machine.{Machine}
use Rattle.lx_model.specs.declared.event.PtraceEvent.{PtraceEvent}
use Rattle.lx_model.specs.declared.event.PtraceEvent.TheVariants.{Plain, Execed, Forked}
use Rattle.lx_model.specs.Turn.{Out}
use Rattle.lx_model.specs.declared.stage.Task.{Task}
use Rattle.lx_model.specs.declared.stage.Task.TheVariants.{Alive, Dying, Gone}
use Rattle.lx_model.specs.Kernel.{Script}
use Rattle.lx_model.specs.Finite.{at, Running, ran, bore, turn_out, first_running, with_task}
use Rattle.lx_abi.specs.declared.ptrace.TraceOptions.{TraceOptions}
use Rattle.pt_model.specs.Ptrace.{Proc, Report, Host, event_stop, tracee_stop, stop_at, is_dying, is_there, reports_of, without, is_effective, inherits}
use Rattle.pt_model.specs.Requests.{esrch, echild, Answered, stopped, unseized, told}
use Rattle.pt_model.specs.Attending.{Attending, left_pending}
pub use Rattle.pt_model.specs.declared.ptrace.Traced.{Traced}
pub use Rattle.lx_abi.specs.Modes.{ends_dying}

abbrev pub untraced : Traced
untraced = record { held = false; options = None; message = 0 }

pub record Hosting (S B : Type 0) : Type 0 where
  -- the kernel; its log is no part of the ptrace machine
  pub running : Running S B
  -- process 1, and the tracees; those that have ended stay
  pub traced : maps.FinMap nat_cmp Traced
  pub queue : List Report
  pub tracees : List ℕ
  -- the effective turns so far
  pub turns : List ℕ
  pub pending : Option Request

-- The machine that this is

abbrev pub traced_at : {S B : Type 0} → Hosting S B → ℕ → Traced
traced_at v = at untraced v.traced

abbrev pub as_proc : {B : Type 0} → Task B → Traced → Proc B
as_proc task t = record { task = task; held = t.held; options = t.options }

abbrev pub proc_in : {S B : Type 0} → Hosting S B → ℕ → Proc B
proc_in v p = as_proc (at Gone v.running.tasks p) (traced_at v p)

abbrev pub host_in : {S B : Type 0} → Hosting S B → Host S B
host_in v = record {
  shared = v.running.shared;
  procs = proc_in v;
  queue = v.queue;
  tracees = v.tracees;
  messages = λ p. (traced_at v p).message;
  child = v.running.child;
}

abbrev pub attending_in : {S B : Type 0} → Hosting S B → Attending S B
attending_in v = record { host = host_in v; pending = v.pending }

-- nothing is kept of who was not born
abbrev pub IsFresh : {S B : Type 0} → Hosting S B → Type 0
IsFresh v = (q : ℕ) → v.running.child ≤ q → maps.get v.traced q ≡ None

-- A turn

abbrev pub no_script : Script
no_script call n = no_choice

-- what EventMsg answers from then on
abbrev pub message_after : ℕ → ℕ → TraceOptions → PtraceEvent ℕ → ℕ
message_after message p w Plain = message
message_after message p w Execed = cond w.execs p message
message_after message p w (Forked child) = cond w.forks child message

-- what is kept of a tracee after its turn; of who is none nothing is
abbrev pub traced_after : {B : Type 0} → maps.FinMap nat_cmp Traced → ℕ → ℕ → ℕ
    → Option TraceOptions → Task B → Option Noted → PtraceEvent B → maps.FinMap nat_cmp Traced
traced_after traced p child message None task i e = traced
traced_after traced p child message (Some w) task i e = maps.insert traced p (record {
  held = is_there (tracee_stop w task i e);
  options = Some w;
  message = message_after message p w (by_pid child e);
})

-- a child that is a tracee is held, and its EVENT_STOP reported
abbrev pub with_newborn : {S B : Type 0} → Hosting S B → ℕ → Option TraceOptions → Hosting S B
with_newborn v child None = v
with_newborn v child (Some w) = record {
  running = v.running;
  traced = maps.insert v.traced child (record { held = true; options = Some w; message = 0 });
  queue = v.queue ++ record { pid = child; stop = Event_stop At_start } ∷ [];
  tracees = v.tracees ++ child ∷ [];
  turns = v.turns;
  pending = v.pending;
}

abbrev pub with_birth : {S B : Type 0} → Hosting S B → ℕ → Option TraceOptions → PtraceEvent B → Hosting S B
with_birth v child w Plain = v
with_birth v child w Execed = v
with_birth v child w (Forked b) = with_newborn v child (inherits w)

-- what a turn of the kernel leaves, where this was kept of its process
abbrev pub hosted : {S B : Type 0} → Hosting S B → ℕ → Traced → Out S B → Hosting S B
hosted v p t o = with_birth (record {
  running = bore (ran v.running p o) o.event;
  traced = traced_after v.traced p v.running.child t.message t.options o.task o.item o.event;
  queue = cond (is_dying o.task) (without p v.queue) v.queue ++ reports_of p (stop_at t.options o.task o.item o.event);
  tracees = v.tracees;
  turns = v.turns ++ p ∷ [];
  pending = v.pending;
}) v.running.child t.options o.event

-- a turn that is effective is the kernel's own, under the empty script
abbrev pub hosting_turn : {S B : Type 0} → Machine S B → Bool → Hosting S B → ℕ → Hosting S B
hosting_turn m follow v p =
    cond (is_effective m v.running.shared p (proc_in v p))
    (hosted v p (traced_at v p) (turn_out m no_script follow v.running p)) v

-- What a turn tells: its mode and item, and what it did beside

-- a signal that was taken, a group stop or an end is that of the item
abbrev pub item_stop : Option Item → Option Stop
item_stop (Some (Signalled p signal cause)) = Some (Signal_stop signal)
item_stop (Some (Halts p signal)) = Some (Group_stop signal)
item_stop (Some (Exit p word left)) = Some (Ended word)
item_stop _ = None

-- the stop of a tracee that has come to this mode
abbrev pub mode_stop : TraceOptions → Mode → Option Item → PtraceEvent ℕ → Option Stop
mode_stop w mode.Entered item e = Some (Syscall_stop w.good)
mode_stop w mode.Acted item e = event_stop w e
mode_stop w mode.Finished item e = Some (Syscall_stop w.good)
mode_stop w mode.Taken item e = item_stop item
mode_stop w mode.Stopped item e = item_stop item
mode_stop w mode.Woken item e = Some (Event_stop At_start)
mode_stop w mode.Dying item e = item_stop item
mode_stop _ _ _ _ = None

abbrev pub told_stop : TraceOptions → Option Mode → Option Item → PtraceEvent ℕ → Option Stop
told_stop w None item e = None
told_stop w (Some mode) item e = mode_stop w mode item e

-- Requests

pub record Hosted (S B : Type 0) : Type 0 where
  pub hosting : Hosting S B
  pub reply : Option Reply

abbrev pub refuses : {S B : Type 0} → Hosting S B → Hosted S B
refuses v = record { hosting = v; reply = Some esrch }

-- a held process after its answer
abbrev pub with_answer : {S B : Type 0} → Hosting S B → ℕ → ℕ → Answered B → Hosted S B
with_answer v p message a = record {
  hosting = record {
    running = with_task v.running p a.proc.task;
    traced = maps.insert v.traced p (record { held = a.proc.held; options = a.proc.options; message = message });
    queue = cond a.seized (v.queue ++ record { pid = p; stop = Event_stop At_start } ∷ []) v.queue;
    tracees = cond a.seized (v.tracees ++ p ∷ []) v.tracees;
    turns = v.turns;
    pending = v.pending;
  };
  reply = Some a.reply;
}

-- a request to a process that is not held, or is ending, changes nothing
abbrev pub hosting_to : {S B : Type 0} → Machine S B → Hosting S B
    → ℕ → ℕ → Proc B → Bool → Option TraceOptions → Task B → Ask → Hosted S B
hosting_to m v p message t true (Some w) (Alive b stage) q = with_answer v p message (stopped m t b stage message q)
hosting_to m v p message t true (Some w) (Dying word) q = refuses v
hosting_to m v p message t true (Some w) Gone q = refuses v
hosting_to m v p message t true None task q = with_answer v p message (unseized t q)
hosting_to m v p message t false w task q = refuses v

-- who is waited for is held no more
abbrev pub released : maps.FinMap nat_cmp Traced → ℕ → Option Traced → maps.FinMap nat_cmp Traced
released traced p None = traced
released traced p (Some t) = maps.insert traced p (record { held = false; options = t.options; message = t.message })

abbrev pub with_queue : {S B : Type 0} → Hosting S B → List Report → Hosting S B
with_queue v queue = record {
  running = v.running;
  traced = v.traced;
  queue = queue;
  tracees = v.tracees;
  turns = v.turns;
  pending = v.pending;
}

abbrev pub took_report : {S B : Type 0} → Hosting S B → List Report → ℕ → Stop → Hosting S B
took_report v rest p (Syscall_stop good) = with_queue v rest
took_report v rest p (Signal_stop signal) = with_queue v rest
took_report v rest p (Group_stop signal) = with_queue v rest
took_report v rest p (Event_stop event) = with_queue v rest
took_report v rest p (Ended word) = record {
  running = v.running;
  traced = released v.traced p (maps.get v.traced p);
  queue = rest;
  tracees = filter (λ q. not (p == q)) v.tracees;
  turns = v.turns;
  pending = v.pending;
}

abbrev pub hosting_wait : {S B : Type 0} → Hosting S B → List Report → List ℕ → Hosted S B
hosting_wait v [] [] = record { hosting = v; reply = Some echild }
hosting_wait v [] (q ∷ qs) = record { hosting = v; reply = None }
hosting_wait v (r ∷ rest) qs = record { hosting = took_report v rest r.pid r.stop; reply = Some (told r.pid r.stop) }

abbrev pub hosting_serve : {S B : Type 0} → Machine S B → (S → Outcome) → Hosting S B → Request → Hosted S B
hosting_serve m outcome v (Boot_with boot limit words) = record { hosting = v; reply = None }
hosting_serve m outcome v Wait = hosting_wait v v.queue v.tracees
hosting_serve m outcome v (To p q) =
    hosting_to m v p (traced_at v p).message (proc_in v p) (traced_at v p).held (traced_at v p).options
    (at Gone v.running.tasks p) q
hosting_serve m outcome v Ask_outcome = record { hosting = v; reply = Some (Outcome_is (outcome v.running.shared)) }

-- Events, and the request that is pending

abbrev pub with_pending : {S B : Type 0} → Hosting S B → Option Request → Hosting S B
with_pending v pending = record {
  running = v.running;
  traced = v.traced;
  queue = v.queue;
  tracees = v.tracees;
  turns = v.turns;
  pending = pending;
}

-- a request is put; while another is pending the host is busy
abbrev pub hosting_asked : {S B : Type 0} → Hosting S B → Request → Option Request → Option (Hosting S B)
hosting_asked v q None = Some (with_pending v (Some q))
hosting_asked v q (Some other) = None

abbrev pub served_pending : {S B : Type 0} → Request → Hosted S B → Hosted S B
served_pending q x = record { hosting = with_pending x.hosting (left_pending q x.reply); reply = x.reply }

abbrev pub hosting_pending : {S B : Type 0} → Machine S B → (S → Outcome) → Hosting S B → Option Request → Hosted S B
hosting_pending m outcome v None = record { hosting = v; reply = None }
hosting_pending m outcome v (Some q) = served_pending q (hosting_serve m outcome v q)

abbrev pub hosting_event : {S B : Type 0} → Machine S B → (S → Outcome) → Bool → Hosting S B → Step → Hosted S B
hosting_event m outcome follow v (Turn p) = record { hosting = hosting_turn m follow v p; reply = None }
hosting_event m outcome follow v Serve = hosting_pending m outcome v v.pending

-- a request is pending, and would be answered: a Wait where a report is there, or no tracee
abbrev pub wait_ready : List Report → List ℕ → Bool
wait_ready [] [] = true
wait_ready [] (p ∷ ps) = false
wait_ready (r ∷ rs) ps = true

abbrev pub ready_in : Option Request → List Report → List ℕ → Bool
ready_in None queue tracees = false
ready_in (Some (Boot_with boot limit words)) queue tracees = false
ready_in (Some Wait) queue tracees = wait_ready queue tracees
ready_in (Some (To p q)) queue tracees = true
ready_in (Some Ask_outcome) queue tracees = true

-- process 1 is held from the boot, and no tracee yet
abbrev pub first_hosting : {S B : Type 0} → S → B → Hosting S B
first_hosting s b = record {
  running = first_running s b;
  traced = maps.insert maps.empty 1 (record { held = true; options = None; message = 0 });
  queue = [];
  tracees = [];
  turns = [];
  pending = None;
}
