-- The ptrace machine: the kernel under the empty script, with tracees and the stops that they report
-- (ptrace(2), "Stopped states").
use Rattle.std.specs.Prelude.{ℕ, suc, ◌==◌, Bool, true, false, cond, not, List, [], ◌∷◌, ◌++◌, Option, Some, None, filter}
use Rattle.lx_abi.specs.declared.ptrace.TraceOptions.{TraceOptions}
use Rattle.lx_abi.specs.declared.status.EventStop.TheVariants.{Fork as At_fork, Exec as At_exec, Stop as At_start}
use Rattle.lx_abi.specs.declared.status.Stop.{Stop}
use Rattle.lx_abi.specs.declared.status.Stop.TheVariants.{Event as Event_stop, Ended}
use Rattle.lx_abi.specs.Log.{Noted}
use Rattle.lx_abi.specs.Scripts.{no_choice}
use Rattle.lx_model.specs.Machine.{Machine}
use Rattle.lx_model.specs.declared.event.PtraceEvent.{PtraceEvent}
use Rattle.lx_model.specs.declared.event.PtraceEvent.TheVariants.{Plain, Execed, Forked}
use Rattle.lx_model.specs.Turn.{Out, turn}
use Rattle.lx_model.specs.declared.stage.Stage.TheVariants.{Born}
use Rattle.lx_model.specs.declared.stage.Task.{Task}
use Rattle.lx_model.specs.declared.stage.Task.TheVariants.{Alive, Dying, Gone}
use Rattle.lx_model.specs.Kernel.{put}
use Rattle.lx_model.specs.Rows.{row}
pub use Rattle.pt_model.specs.declared.ptrace.Report.{Report}

-- a process as a tracer meets it
pub record Proc (B : Type 0) : Type 0 where
  pub task : Task B
  -- in a stop, and not resumed
  pub held : Bool
  -- its options, where it is a tracee
  pub options : Option TraceOptions

pub record Host (S B : Type 0) : Type 0 where
  pub shared : S
  pub procs : ℕ → Proc B
  -- the reports in the order in which they arose
  pub queue : List Report
  -- the tracees whose end was not waited for, in the order in which they came
  pub tracees : List ℕ
  -- what EventMsg answers: the child, or after an execve the pid itself; 0 at first
  pub messages : ℕ → ℕ
  -- the next pid
  pub child : ℕ

-- What a turn has come to

abbrev pub is_there : {X : Type 0} → Option X → Bool
is_there (Some x) = true
is_there None = false

abbrev pub event_stop : {B : Type 0} → TraceOptions → PtraceEvent B → Option Stop
event_stop w Plain = None
event_stop w Execed = cond w.execs (Some (Event_stop At_exec)) None
event_stop w (Forked b) = cond w.forks (Some (Event_stop At_fork)) None

-- the stop of a tracee after its turn, from where it stands, what was logged and what its call did
abbrev pub tracee_stop : {B : Type 0} → TraceOptions → Task B → Option Noted → PtraceEvent B → Option Stop
tracee_stop w (Alive b stage) i e = (row stage).stop w.good (event_stop w e) (is_there i)
tracee_stop w (Dying word) i e = Some (Ended word)
tracee_stop w Gone i e = None

-- a process that is no tracee has no stops
abbrev pub stop_at : {B : Type 0} → Option TraceOptions → Task B → Option Noted → PtraceEvent B → Option Stop
stop_at (Some w) task i e = tracee_stop w task i e
stop_at None task i e = None

abbrev pub is_dying : {B : Type 0} → Task B → Bool
is_dying (Alive b stage) = false
is_dying (Dying word) = true
is_dying Gone = false

abbrev pub reports_of : ℕ → Option Stop → List Report
reports_of p (Some s) = record { pid = p; stop = s } ∷ []
reports_of p None = []

abbrev pub without : ℕ → List Report → List Report
without p reports = filter (λ r. not (p == r.pid)) reports

-- Which turns reach the kernel

-- SIGKILL is pending for a tracee before Dying
abbrev pub may_die : {S B : Type 0} → Machine S B → S → ℕ → Option TraceOptions → Task B → Bool
may_die m s p (Some w) (Alive b stage) = m.killed s p
may_die _ _ _ _ _ = false

-- a held process takes no turn but to Dying, by SIGKILL (ptrace(2), "Death under ptrace"); process 1
-- before Seize is alone, and nobody can kill it
abbrev pub is_effective : {S B : Type 0} → Machine S B → S → ℕ → Proc B → Bool
is_effective m s p t = cond t.held (may_die m s p t.options t.task) true

abbrev pub proc_after : {B : Type 0} → Option TraceOptions → Task B → Option Noted → PtraceEvent B → Proc B
proc_after w task i e = record { task = task; held = is_there (stop_at w task i e); options = w }

abbrev pub messages_after : {B : Type 0} → (ℕ → ℕ) → ℕ → ℕ → Option TraceOptions → PtraceEvent B → ℕ → ℕ
messages_after messages p child None e = messages
messages_after messages p child (Some w) Plain = messages
messages_after messages p child (Some w) Execed = cond w.execs (put messages p p) messages
messages_after messages p child (Some w) (Forked b) = cond w.forks (put messages p child) messages

-- what a turn of p leaves, before a child is born: its stop is reported last, and where it is dying
-- no stop that was not told of is reported any more
abbrev pub moved : {S B : Type 0} → Host S B → ℕ → Option TraceOptions → Out S B → Host S B
moved h p w o = record {
  shared = o.shared;
  procs = put h.procs p (proc_after w o.task o.item o.event);
  queue = cond (is_dying o.task) (without p h.queue) h.queue ++ reports_of p (stop_at w o.task o.item o.event);
  tracees = h.tracees;
  messages = messages_after h.messages p h.child w o.event;
  child = h.child;
}

-- Children

-- a child's options, where TRACEFORK makes it a tracee
abbrev pub inherits : Option TraceOptions → Option TraceOptions
inherits None = None
inherits (Some w) = cond w.forks (Some w) None

-- a child that is a tracee is held, and its EVENT_STOP reported
abbrev pub newborn : {S B : Type 0} → Host S B → B → Option TraceOptions → Host S B
newborn h b None = record {
  shared = h.shared;
  procs = put h.procs h.child (record { task = Alive b Born; held = false; options = None });
  queue = h.queue;
  tracees = h.tracees;
  messages = h.messages;
  child = suc h.child;
}
newborn h b (Some w) = record {
  shared = h.shared;
  procs = put h.procs h.child (record { task = Alive b Born; held = true; options = Some w });
  queue = h.queue ++ record { pid = h.child; stop = Event_stop At_start } ∷ [];
  tracees = h.tracees ++ h.child ∷ [];
  messages = h.messages;
  child = suc h.child;
}

abbrev pub bears : {S B : Type 0} → Host S B → Option TraceOptions → PtraceEvent B → Host S B
bears h w Plain = h
bears h w Execed = h
bears h w (Forked b) = newborn h b (inherits w)

-- A turn

-- the kernel's own turn, with no choice: a signal that is joined stands in the stage already
abbrev pub host_turn_of : {S B : Type 0} → Machine S B → Host S B → ℕ → Out S B
host_turn_of m h p = turn m no_choice h.shared h.child p (h.procs p).task

abbrev pub host_turn : {S B : Type 0} → Machine S B → Host S B → ℕ → Host S B
host_turn m h p =
    cond (is_effective m h.shared p (h.procs p))
    (bears (moved h p (h.procs p).options (host_turn_of m h p)) (h.procs p).options (host_turn_of m h p).event) h

-- process 1 is held from the boot, and no tracee yet
abbrev pub first_host : {S B : Type 0} → S → (ℕ → Task B) → Host S B
first_host s tasks = record {
  shared = s;
  procs = λ p. record { task = tasks p; held = p == 1; options = None };
  queue = [];
  tracees = [];
  messages = λ p. 0;
  child = 2;
}
