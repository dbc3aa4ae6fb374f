-- Where a read or a write would block.
use Rattle.std.specs.Prelude.{ℕ, ◌+◌, ◌==◌, ◌&&◌, nat_lt, Bool, false, length, min, Option, Some, None, is_none}
use Rattle.std.specs.Prelude.{if◌then◌else◌}
use Rattle.lx_abi.specs.declared.log.Call.{Call}
use Rattle.lx_abi.specs.Limits.{most_moved, pipe_size}
use Rattle.lx_abi.specs.Sys.{sys_read, sys_write}
use Rattle.rv_mem.specs.Memory.{Memory, first_fault}
use Rattle.rv_mem.specs.declared.rights.Access.TheVariants as access
use Rattle.lx_open.specs.Opens.{slot, description, held, has_readers}
use Rattle.lx_open.specs.declared.description.Description.{Description}
use Rattle.lx_open.specs.declared.description.Object.{Object}
use Rattle.lx_open.specs.declared.description.Object.TheVariants.{Input, Console, ReadEnd, WriteEnd, Opened}
use Rattle.lx_open.specs.declared.fd_table.FdTable.{FdTable}
use Rattle.lx_proc.specs.Answers.{argument, low_argument}
use Rattle.lx_proc.specs.declared.state.UserState.{UserState}
use Rattle.lx_proc.specs.declared.state.Shared.{Shared}
use Rattle.lx_fcalls.specs.Read.{waits}

-- there is one, and it passes
abbrev pub passes : {A : Type 0} → (A → Bool) → Option A → Bool
passes test None = false
passes test (Some x) = test x

-- the descriptor is open, and its description passes
abbrev pub open_passes : FdTable → ℕ → ℕ → (Description → Bool) → Bool
open_passes fds p fd test = passes (λ named. passes test (description fds named.description)) (slot fds p fd)

-- a read of an empty pipe that has writers
abbrev pub reading_waits : FdTable → ℕ → Object → Bool
reading_waits fds n Input = false
reading_waits fds n Console = false
reading_waits fds n (ReadEnd pipe) = waits fds pipe n
reading_waits fds n (WriteEnd pipe) = false
reading_waits fds n (Opened node) = false

abbrev pub read_waits : FdTable → ℕ → Description → Bool
read_waits fds n d = d.may_read && reading_waits fds n d.object

unfoldable pub read_would_block : Shared → ℕ → Call → Bool
read_would_block s p call =
    open_passes s.fds p (low_argument call 0) (read_waits s.fds (min (argument call 2) most_moved))

-- a write of more than fits in a pipe that has readers
abbrev pub writing_waits : FdTable → ℕ → Object → Bool
writing_waits fds n Input = false
writing_waits fds n Console = false
writing_waits fds n (ReadEnd pipe) = false
writing_waits fds n (WriteEnd pipe) = has_readers fds pipe && nat_lt pipe_size (length (held fds pipe) + n)
writing_waits fds n (Opened node) = false

-- what is written has to be readable
abbrev pub write_waits : FdTable → Memory → ℕ → ℕ → Description → Bool
write_waits fds m at n d = d.may_write && (is_none (first_fault access.Read m at n) && writing_waits fds n d.object)

unfoldable pub write_would_block : Shared → ℕ → Call → UserState → Bool
write_would_block s p call b =
    open_passes s.fds p (low_argument call 0)
    (write_waits s.fds b.memory (argument call 1) (min (argument call 2) most_moved))

-- no other call on files blocks
unfoldable pub would_block : Shared → ℕ → Call → UserState → Bool
would_block s p call b =
    if call.number == sys_read then read_would_block s p call
    else if call.number == sys_write then write_would_block s p call b
    else false
