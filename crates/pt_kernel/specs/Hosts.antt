-- The host: the ptrace machine at Linux.
use Rattle.std.specs.Prelude.{◌≡◌, ℕ, Bool, true, false, cond, not, ◌&&◌, List, [], ◌∷◌, ◌++◌, Option, Some, None}
use Rattle.std.specs.FinMap as maps
use Rattle.lx_abi.specs.declared.ptrace.Ask.{Ask}
use Rattle.lx_abi.specs.declared.ptrace.Reply.{Reply}
use Rattle.lx_abi.specs.declared.ptrace.Request.{Request}
use Rattle.lx_abi.specs.declared.ptrace.Request.TheVariants.{Boot as Boot_with, Wait, To, Outcome as Ask_outcome}
use Rattle.lx_abi.specs.declared.schedule.Event.{Event}
use Rattle.lx_abi.specs.declared.status.EventStop.TheVariants.{Stop as At_start}
use Rattle.lx_abi.specs.declared.status.Stop.TheVariants.{Event as Event_stop}
use Rattle.lx_model.specs.declared.stage.Stage.{Stage}
use Rattle.lx_model.specs.declared.stage.Task.{Task}
use Rattle.lx_model.specs.declared.stage.Task.TheVariants.{Alive, Gone}
use Rattle.lx_model.specs.Finite.{at, Running, with_task, task_mode, turn_out}
use Rattle.lx_proc.specs.declared.state.Shared.{Shared}
use Rattle.lx_proc.specs.declared.state.UserState.{UserState}
use Rattle.lx_turn.specs.Linux.{linux}
use Rattle.lx_kernel.specs.Outcomes.{outcome_in}
use Rattle.lx_kernel.specs.Runs.{Run as KernelRun}
use Rattle.lx_kernel.specs.Tracing.{task_in}
use Rattle.pt_model.specs.declared.ptrace.Traced.{Traced}
use Rattle.pt_model.specs.Ptrace.{is_effective}
use Rattle.pt_model.specs.Requests.{Answered, stopped}
use Rattle.pt_model.specs.Hosting.{Hosting, Hosted, as_proc, proc_in, no_script, ready_in, hosting_event, IsFresh}
use Rattle.pt_schedule.specs.Modes.{is_finished, moves}
use Rattle.pt_schedule.specs.Schedules.{Readiness}
use Rattle.pt_kernel.specs.declared.tracees.Tracees.{Tracees}

abbrev pub Linux_host : Type 0
Linux_host = Hosting Shared UserState

abbrev pub hosting_by : Running Shared UserState → Tracees → List ℕ → Option Request → Linux_host
hosting_by running x turns pending = record {
  running = running;
  traced = x.traced;
  queue = x.queue;
  tracees = x.pids;
  turns = turns;
  pending = pending;
}

-- no process that is gone keeps a place in the table
abbrev pub IsSwept : Running Shared UserState → Type 0
IsSwept k = (p : ℕ) → maps.get k.tasks p ≡ Some Gone → ⊥

-- What an answer leaves

abbrev pub with_user : KernelRun → ℕ → Task UserState → KernelRun
with_user k p task = record k { running = with_task k.running p task }

abbrev pub with_tracee : Tracees → ℕ → ℕ → Answered UserState → Tracees
with_tracee x p message a = record {
  traced = maps.insert x.traced p (record { held = a.proc.held; options = a.proc.options; message = message });
  queue = cond a.seized (x.queue ++ record { pid = p; stop = Event_stop At_start } ∷ []) x.queue;
  pids = cond a.seized (x.pids ++ p ∷ []) x.pids;
}

pub record IsAnswer (k : KernelRun) (x : Tracees) (p message : ℕ) (a : Answered UserState)
    (r : Reply) (k' : KernelRun) (x' : Tracees) : Type 0 where
  pub kernel : k' ≡ with_user k p a.proc.task
  pub tracees : x' ≡ with_tracee x p message a
  pub reply : r ≡ a.reply

-- a held tracee that lives is answered so
abbrev pub Answers : KernelRun → Tracees → ℕ → Traced → Ask → Reply → KernelRun → Tracees → Type 0
Answers k x p t q r k' x' = (b : UserState) (stage : Stage) → task_in k p ≡ Alive b stage →
    IsAnswer k x p t.message (stopped linux (as_proc (Alive b stage) t) b stage t.message q) r k' x'

-- it goes on from a stage, or the kernel is unchanged
abbrev pub GoesOn : KernelRun → ℕ → UserState → Option Stage → Bool → KernelRun → Type 0
GoesOn k p b None goes k' = (goes ≡ false) × (k' ≡ k)
GoesOn k p b (Some stage) goes k' = (goes ≡ true) × (k' ≡ with_user k p (Alive b stage))

-- what an event leaves, and its reply
abbrev pub made : Linux_host → Option Reply → Hosted Shared UserState
made v r = record { hosting = v; reply = r }

-- The host's value

pub record HostState : Type 0 where
  pub hosting : Linux_host
  -- every process is a tracee of the script; the ptrace machine's turns are under the empty one
  pub follow : Bool
  -- memory was refused, and the host does nothing any more
  pub failed : Bool

-- what a host that hasn't failed keeps
pub record IsSound (k : KernelRun) (v : Linux_host) : Type 0 where
  pub empty : k.script ≡ []
  pub swept : IsSwept v.running
  pub fresh : IsFresh v

abbrev pub state_by : KernelRun → Tracees → List ℕ → Option Request → Bool → HostState
state_by k x turns pending failed = record {
  hosting = hosting_by k.running x turns pending;
  follow = k.follow;
  failed = failed;
}

-- a host is booted before it is asked anything
abbrev pub is_boot : Request → Bool
is_boot (Boot_with boot limit words) = true
is_boot Wait = false
is_boot (To p q) = false
is_boot Ask_outcome = false

-- What a schedule sees of it

abbrev pub able_in : Linux_host → Bool → ℕ → Bool
able_in v follow p =
    is_effective linux v.running.shared p (proc_in v p)
    && moves (task_mode (at Gone v.running.tasks p)) (task_mode (turn_out linux no_script follow v.running p).task)

abbrev pub readiness_of : HostState → Readiness
readiness_of h = record {
  ready = ready_in h.hosting.pending h.hosting.queue h.hosting.tracees;
  able = λ p. not h.failed && able_in h.hosting h.follow p;
  last_pid = h.hosting.running.shared.limits.last_pid;
  finished = λ p. is_finished (task_mode (at Gone h.hosting.running.tasks p));
}

abbrev pub event_of : HostState → Event → Hosted Shared UserState
event_of h e = hosting_event linux outcome_in h.follow h.hosting e
