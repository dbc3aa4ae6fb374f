-- What a tracer reads and changes of one process (ptrace(2): PTRACE_GETREGSET, PTRACE_SETREGSET, PTRACE_PEEKDATA,
-- PTRACE_GETSIGINFO, PTRACE_SYSCALL, PTRACE_LISTEN).
use Rattle.std.specs.Prelude.{◌≡◌, ℕ, Bool, true, false, List, Option, Some, None, is_some}
use Rattle.std.specs.Option.{option_map}
use Rattle.std.specs.Ordering.{nat_cmp}
use Rattle.std.specs.FinMap.{FinMap}
use Rattle.lx_abi.specs.declared.log.Call.{Call}
use Rattle.lx_abi.specs.declared.log.Cause.{Cause}
use Rattle.lx_abi.specs.declared.signal.Signal.{Signal}
use Rattle.lx_model.specs.Machine.{Regs}
use Rattle.lx_model.specs.Finite.{at, placed, with_task}
use Rattle.lx_model.specs.Rows.{row}
use Rattle.lx_model.specs.declared.stage.Stage.{Stage}
use Rattle.lx_model.specs.declared.stage.Stage.TheVariants.{Entered, Doing, Taken, Dropped, Stopped, Released}
use Rattle.lx_model.specs.declared.stage.Task.{Task}
use Rattle.lx_model.specs.declared.stage.Task.TheVariants.{Alive, Dying, Gone}
use Rattle.lx_proc.specs.declared.state.UserState.{UserState}
use Rattle.lx_turn.specs.Linux.{linux}
use Rattle.lx_kernel.specs.Runs.{Run as KernelRun}
use Rattle.lx_kernel.specs.declared.tracing.Change.{Change}
use Rattle.lx_kernel.specs.declared.tracing.Change.TheVariants.{Join, Skip, Resume}

-- a process's own part
abbrev pub task_in : KernelRun → ℕ → Task UserState
task_in k pid = at Gone k.running.tasks pid

-- What is read

abbrev pub user_of : Task UserState → Option UserState
user_of (Alive b stage) = Some b
user_of (Dying w) = None
user_of Gone = None

abbrev pub regs_of : Task UserState → Option Regs
regs_of task = option_map (λ b. linux.regs b) (user_of task)

abbrev pub peek_of : Task UserState → ℕ → ℕ → Option (List ℕ)
peek_of task address length = option_map (λ b. linux.peek b address length) (user_of task)

-- the call that it does, or waits in
abbrev pub call_at : Stage → Option Call
call_at (Doing call) = Some call
call_at _ = None

abbrev pub call_of : Task UserState → Option Call
call_of (Alive b stage) = call_at stage
call_of (Dying w) = None
call_of Gone = None

-- the signal at a signal stop, and why it came
abbrev pub signal_of : Task UserState → Option (Signal × Cause)
signal_of (Alive b stage) = (row stage).info
signal_of (Dying w) = None
signal_of Gone = None

-- it is in a group stop, where it stays by Listen
abbrev pub listens_of : Task UserState → Bool
listens_of (Alive b stage) = is_some (row stage).listen
listens_of (Dying w) = false
listens_of Gone = false

-- What is changed: none where there is nothing to change

-- at a call, with another signal to be joined to it
abbrev pub joining : Option Signal → Stage → Option Stage
joining signal (Entered joined) = Some (Entered signal)
joining signal _ = None

-- from a signal stop, and from a group stop, without the signal
abbrev pub dropping : Stage → Option Stage
dropping (Taken signal cause) = Some Dropped
dropping (Stopped signal) = Some Released
dropping _ = None

abbrev pub changed : Change → Stage → Option Stage
changed (Join signal) stage = joining signal stage
changed Skip stage = dropping stage
changed (Resume n) stage = (row stage).resume n

abbrev pub with_regs : Regs → Task UserState → Option (Task UserState)
with_regs r (Alive b stage) = Some (Alive (linux.with_regs b r) stage)
with_regs r (Dying w) = None
with_regs r Gone = None

abbrev pub with_change : Change → Task UserState → Option (Task UserState)
with_change change (Alive b stage) = option_map (λ s. Alive b s) (changed change stage)
with_change change (Dying w) = None
with_change change Gone = None

-- the kernel with the process's own part changed so
abbrev pub with_part : KernelRun → ℕ → Option (Task UserState) → KernelRun
with_part k pid None = k
with_part k pid (Some task) = record k { running = with_task k.running pid task }

-- Of a stage, of one part, and of the table of parts: what is left, and whether it was changed.

abbrev pub IsChanged : Option Stage → Stage → Stage → Bool → Type 0
IsChanged None stage stage' changed = (stage' ≡ stage) × (changed ≡ false)
IsChanged (Some other) stage stage' changed = (stage' ≡ other) × (changed ≡ true)

abbrev pub IsPart : Option (Task UserState) → Task UserState → Task UserState → Bool → Type 0
IsPart None task task' changed = (task' ≡ task) × (changed ≡ false)
IsPart (Some other) task task' changed = (task' ≡ other) × (changed ≡ true)

abbrev pub with_part_at : FinMap nat_cmp (Task UserState) → ℕ → Option (Task UserState)
    → FinMap nat_cmp (Task UserState)
with_part_at tasks pid None = tasks
with_part_at tasks pid (Some task) = placed tasks pid task
