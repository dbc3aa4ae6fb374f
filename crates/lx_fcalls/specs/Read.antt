-- read(fd, buf, count): read(2).
use Rattle.std.specs.Prelude.{ℕ, ◌+◌, ◌==◌, ◌&&◌, nat_lt, Bool, List, length, take, drop, min, if◌then◌else◌}
use Rattle.lx_abi.specs.Errnos.{ebadf}
use Rattle.lx_abi.specs.declared.log.Call.{Call}
use Rattle.lx_abi.specs.Limits.{most_moved}
use Rattle.lx_model.specs.Machine.{Refused, Blocks}
use Rattle.lx_files.specs.Trees.{content}
use Rattle.lx_open.specs.Opens.{held, has_writers, with_held, with_offset}
use Rattle.lx_open.specs.declared.description.Description.{Description}
use Rattle.lx_open.specs.declared.description.Object.{Object}
use Rattle.lx_open.specs.declared.description.Object.TheVariants.{Input, Console, ReadEnd, WriteEnd, Opened}
use Rattle.lx_open.specs.declared.description.Slot.{Slot}
use Rattle.lx_open.specs.declared.fd_table.FdTable.{FdTable}
use Rattle.lx_proc.specs.Answers.{Answers, argument, low_argument, unless, gives}
use Rattle.lx_proc.specs.State.{with_fds}
use Rattle.lx_proc.specs.declared.state.UserState.{UserState}
use Rattle.lx_proc.specs.declared.state.Shared.{Shared}
use Rattle.lx_fcalls.specs.Arguments.{opened}

abbrev pub reads : Shared → UserState → ℕ → List ℕ → Answers
reads s b at bytes = gives s b at bytes (length bytes)

-- nothing is there, and something may come
abbrev pub waits : FdTable → ℕ → ℕ → Bool
waits fds pipe n = (length (held fds pipe) == 0) && nat_lt 0 n && has_writers fds pipe

-- what is there; 0 bytes where nothing can come, or none is wanted
abbrev pub reads_pipe : Shared → UserState → ℕ → ℕ → ℕ → Answers
reads_pipe s b pipe at n =
    if waits s.fds pipe n then Blocks
    else reads (with_fds s (with_held s.fds pipe (drop n))) b at (take n (held s.fds pipe))

abbrev pub reads_file : Shared → UserState → Slot → Description → ℕ → ℕ → ℕ → Answers
reads_file s b named d node at n =
    let bytes = take n (drop d.offset (content s.tree node)) in
    reads (with_fds s (with_offset s.fds named.description (d.offset + length bytes))) b at bytes

abbrev pub reads_input : Shared → UserState → ℕ → ℕ → Answers
reads_input s b at n = reads (record s { input = drop n s.input }) b at (take n s.input)

abbrev pub reads_object : Shared → UserState → Slot → Description → ℕ → ℕ → Object → Answers
reads_object s b named d at n Input = reads_input s b at n
reads_object s b named d at n Console = Refused ebadf
reads_object s b named d at n (ReadEnd pipe) = reads_pipe s b pipe at n
reads_object s b named d at n (WriteEnd pipe) = Refused ebadf
reads_object s b named d at n (Opened node) = reads_file s b named d node at n

unfoldable pub read : Shared → ℕ → Call → UserState → Answers
read s p call b =
    opened s p (low_argument call 0) (λ named d.
    unless d.may_read ebadf
    (reads_object s b named d (argument call 1) (min (argument call 2) most_moved) d.object))
