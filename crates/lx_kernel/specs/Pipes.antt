-- On which pipe a process is in a call, and which one a call changes.
use Rattle.std.specs.Prelude.{◌≡◌, ℕ, ◌==◌, ◌||◌, Bool, Option, Some, None, if◌then◌else◌}
use Rattle.std.specs.Option.{option_and_then}
use Rattle.lx_abi.specs.Sys.{sys_getcwd, sys_dup, sys_mkdirat, sys_unlinkat, sys_ftruncate, sys_chdir, sys_openat}
use Rattle.lx_abi.specs.Sys.{sys_close, sys_pipe2, sys_lseek, sys_read, sys_write, sys_newfstatat, sys_fstat}
use Rattle.lx_abi.specs.declared.log.Call.{Call}
use Rattle.lx_model.specs.declared.stage.Stage.{Stage}
use Rattle.lx_model.specs.declared.stage.Stage.TheVariants.{Born, Run, Faulting, Entered, Doing, Replaced, Acted, Finished, Taken, Dropped, Stopped, Released, Woken}
use Rattle.lx_model.specs.declared.stage.Task.{Task}
use Rattle.lx_model.specs.declared.stage.Task.TheVariants.{Alive, Dying, Gone}
use Rattle.lx_open.specs.Opens.{slot, description}
use Rattle.lx_open.specs.declared.description.Description.{Description}
use Rattle.lx_open.specs.declared.description.Object.{Object}
use Rattle.lx_open.specs.declared.description.Object.TheVariants.{Input, Console, ReadEnd, WriteEnd, Opened}
use Rattle.lx_open.specs.declared.fd_table.FdTable.{FdTable}
use Rattle.lx_proc.specs.Answers.{low_argument}
use Rattle.lx_proc.specs.declared.state.Shared.{Shared}
use Rattle.lx_proc.specs.declared.state.UserState.{UserState}

-- the pipe whose end an object is
abbrev pub pipe_of : Object → Option ℕ
pipe_of Input = None
pipe_of Console = None
pipe_of (ReadEnd pipe) = Some pipe
pipe_of (WriteEnd pipe) = Some pipe
pipe_of (Opened node) = None

abbrev pub pipe_in : Option Description → Option ℕ
pipe_in None = None
pipe_in (Some d) = pipe_of d.object

-- the pipe whose end a descriptor names
unfoldable pub pipe_at : FdTable → ℕ → ℕ → Option ℕ
pipe_at fds p fd = option_and_then (λ named. pipe_in (description fds named.description)) (slot fds p fd)

-- the pipe that a call reads or writes
abbrev pub used_by : FdTable → ℕ → Call → Option ℕ
used_by fds p call =
    if (call.number == sys_read) || (call.number == sys_write) then pipe_at fds p (low_argument call 0) else None

abbrev pub used_at : FdTable → ℕ → Stage → Option ℕ
used_at fds p Born = None
used_at fds p Run = None
used_at fds p (Faulting signal cause) = None
used_at fds p (Entered joined) = None
used_at fds p (Doing call) = used_by fds p call
used_at fds p (Replaced call x) = None
used_at fds p (Acted call x replaced) = None
used_at fds p Finished = None
used_at fds p (Taken signal cause) = None
used_at fds p Dropped = None
used_at fds p (Stopped signal) = None
used_at fds p Released = None
used_at fds p Woken = None

-- the pipe that a process reads or writes, for which it waits if it waits in that call
abbrev pub used : Shared → ℕ → Task UserState → Option ℕ
used s p (Alive b stage) = used_at s.fds p stage
used s p (Dying w) = None
used s p Gone = None

-- a call that leaves every pipe that was there, but for the one whose end its first argument names
abbrev pub is_narrow : ℕ → Bool
is_narrow n =
    (n == sys_read) || ((n == sys_write) || ((n == sys_close) || ((n == sys_openat) || ((n == sys_lseek)
    || ((n == sys_newfstatat) || ((n == sys_fstat) || ((n == sys_dup) || ((n == sys_pipe2) || ((n == sys_getcwd)
    || ((n == sys_chdir) || ((n == sys_mkdirat) || ((n == sys_unlinkat) || (n == sys_ftruncate)))))))))))))

-- the pipe whose end the first argument of a process's call names, the only one that such a call may change
abbrev pub changed_at : FdTable → ℕ → Stage → Option ℕ
changed_at fds p Born = None
changed_at fds p Run = None
changed_at fds p (Faulting signal cause) = None
changed_at fds p (Entered joined) = None
changed_at fds p (Doing call) = pipe_at fds p (low_argument call 0)
changed_at fds p (Replaced call x) = None
changed_at fds p (Acted call x replaced) = None
changed_at fds p Finished = None
changed_at fds p (Taken signal cause) = None
changed_at fds p Dropped = None
changed_at fds p (Stopped signal) = None
changed_at fds p Released = None
changed_at fds p Woken = None

abbrev pub changed_in : Shared → ℕ → Task UserState → Option ℕ
changed_in s p (Alive b stage) = changed_at s.fds p stage
changed_in s p (Dying w) = None
changed_in s p Gone = None

-- the process is in no call on the pipe
abbrev pub IsApart : Option ℕ → Shared → ℕ → Task UserState → Type 0
IsApart changed s p task = (pipe : ℕ) → changed ≡ Some pipe → used s p task ≡ Some pipe → ⊥
