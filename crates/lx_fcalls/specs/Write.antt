-- write(fd, buf, count): write(2).
use Rattle.std.specs.Prelude.{refl, ℕ, ◌+◌, ◌==◌, not, nat_lt, nat_le, List, ◌++◌, length, min, is_some}
use Rattle.std.specs.Prelude.{if◌then◌else◌}
use Rattle.lx_abi.specs.Errnos.{ebadf, efault, efbig, enospc, epipe}
use Rattle.lx_abi.specs.Errors.{error_word}
use Rattle.lx_abi.specs.declared.log.Call.{Call}
use Rattle.lx_abi.specs.declared.log.Cause.TheVariants.{Sent}
use Rattle.lx_abi.specs.declared.signal.Signal.{Signal}
use Rattle.lx_abi.specs.Limits.{largest_file, most_moved, pipe_size}
use Rattle.rv_mem.specs.Memory.{first_fault, bytes_at}
use Rattle.rv_mem.specs.declared.rights.Access.TheVariants as access
use Rattle.lx_model.specs.Machine.{Refused, Returns, Blocks}
use Rattle.lx_files.specs.Contents.{overwritten, length_after}
use Rattle.lx_files.specs.Trees.{with_content, content}
use Rattle.lx_open.specs.Opens.{held, has_readers, with_held, with_offset}
use Rattle.lx_open.specs.declared.description.Description.{Description}
use Rattle.lx_open.specs.declared.description.Object.{Object}
use Rattle.lx_open.specs.declared.description.Object.TheVariants.{Input, Console, ReadEnd, WriteEnd, Opened}
use Rattle.lx_open.specs.declared.description.Slot.{Slot}
use Rattle.lx_proc.specs.Answers.{Answers, argument, low_argument, unless}
use Rattle.lx_proc.specs.State.{with_fds, with_entries}
use Rattle.lx_proc.specs.Sending.{sent}
use Rattle.lx_proc.specs.declared.state.UserState.{UserState}
use Rattle.lx_proc.specs.declared.state.Shared.{Shared}
use Rattle.lx_fcalls.specs.Arguments.{opened}
use Rattle.lx_fcalls.specs.Moving.{has_space}

abbrev pub writes_console : Shared → UserState → List ℕ → Answers
writes_console s b bytes =
    unless (has_space s 0 (length bytes)) enospc
    (Returns (record s { console = s.console ++ bytes }) b (length bytes))

abbrev pub sigpipe : Signal
sigpipe = record { number = 13; in_range = refl }

-- SIGPIPE comes beside the error, from the process itself (write(2), EPIPE)
abbrev pub breaks_pipe : Shared → ℕ → UserState → Answers
breaks_pipe s p b = Returns (with_entries s (sent s.entries p sigpipe (Sent p))) b (error_word epipe)

-- all bytes or none
abbrev pub writes_pipe : Shared → ℕ → UserState → ℕ → List ℕ → Answers
writes_pipe s p b pipe bytes =
    if not (has_readers s.fds pipe) then breaks_pipe s p b
    else if nat_lt pipe_size (length (held s.fds pipe) + length bytes) then Blocks
    else Returns (with_fds s (with_held s.fds pipe (λ there. there ++ bytes))) b (length bytes)

abbrev pub writes_at : Shared → UserState → Slot → ℕ → ℕ → List ℕ → Answers
writes_at s b named node at bytes =
    let old = length (content s.tree node) in
    unless (nat_le (at + length bytes) largest_file) efbig
    (unless (has_space s old (length_after old at (length bytes))) enospc
    (Returns (record s {
      tree = with_content s.tree node (λ old. overwritten old at bytes);
      fds = with_offset s.fds named.description (at + length bytes);
    }) b (length bytes)))

-- where a write begins
abbrev pub start_of : Shared → Description → ℕ → ℕ
start_of s d node = if d.appends then length (content s.tree node) else d.offset

-- a write of no bytes has no other result (POSIX write)
abbrev pub writes_file : Shared → UserState → Slot → Description → ℕ → List ℕ → Answers
writes_file s b named d node bytes =
    if length bytes == 0 then Returns s b 0
    else writes_at s b named node (start_of s d node) bytes

abbrev pub writes_object : Shared → ℕ → UserState → Slot → Description → List ℕ → Object → Answers
writes_object s p b named d bytes Input = Refused ebadf
writes_object s p b named d bytes Console = writes_console s b bytes
writes_object s p b named d bytes (ReadEnd pipe) = Refused ebadf
writes_object s p b named d bytes (WriteEnd pipe) = writes_pipe s p b pipe bytes
writes_object s p b named d bytes (Opened node) = writes_file s b named d node bytes

unfoldable pub write : Shared → ℕ → Call → UserState → Answers
write s p call b =
    let n = min (argument call 2) most_moved in
    let at = argument call 1 in
    opened s p (low_argument call 0) (λ named d.
    unless d.may_write ebadf
    (if is_some (first_fault access.Read b.memory at n) then Refused efault
    else writes_object s p b named d (bytes_at b.memory at n) d.object))
