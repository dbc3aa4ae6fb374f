-- pipe2(fds, flags): pipe(2). The reading end comes first.
use Rattle.std.specs.Int.{w32, to_le_bytes}
use Rattle.std.specs.Prelude.{ℕ, not, Bool, true, false, [], ◌++◌}
use Rattle.lx_abi.specs.Errnos.{einval, emfile}
use Rattle.containers.specs.Vacant.{vacant}
use Rattle.lx_abi.specs.declared.log.Call.{Call}
use Rattle.lx_open.specs.Opens.{with_pipe}
use Rattle.lx_open.specs.declared.description.Description.{Description}
use Rattle.lx_open.specs.declared.description.Object.{Object}
use Rattle.lx_open.specs.declared.description.Object.TheVariants.{ReadEnd, WriteEnd}
use Rattle.lx_open.specs.declared.fd_table.FdTable.{FdTable}
use Rattle.lx_open.specs.Opens as opens
use Rattle.lx_proc.specs.Answers.{Answers, argument, unless, given, gives}
use Rattle.lx_proc.specs.State.{with_fds}
use Rattle.lx_proc.specs.declared.state.UserState.{UserState}
use Rattle.lx_proc.specs.declared.state.Shared.{Shared}
use Rattle.lx_fcalls.specs.Flags.{is_within, has, o_cloexec}
use Rattle.lx_fcalls.specs.Read.{reads}

abbrev pub end_of : Object → Bool → Description
end_of object reads = record { object = object; offset = 0; may_read = reads; may_write = not reads; appends = false }

abbrev pub with_end : FdTable → ℕ → ℕ → Object → Bool → Bool → FdTable
with_end fds p fd object reads closes = opens.opened fds p fd (end_of object reads) closes

-- a descriptor for each end of a pipe
abbrev pub both_ends : FdTable → ℕ → ℕ → ℕ → ℕ → Bool → FdTable
both_ends fds p pipe first second closes =
    with_end (with_end fds p first (ReadEnd pipe) true closes) p second (WriteEnd pipe) false closes

abbrev pub pipes : Shared → ℕ → UserState → ℕ → Bool → ℕ → Answers
pipes s p b at closes pipe =
    given (opens.free s.fds.slots p) emfile (λ first.
    let one = with_end (with_pipe s.fds pipe []) p first (ReadEnd pipe) true closes in
    given (opens.free one.slots p) emfile (λ second.
    gives (with_fds s (with_end one p second (WriteEnd pipe) false closes)) b at
    (to_le_bytes w32 first ++ to_le_bytes w32 second) 0))

unfoldable pub pipe2 : Shared → ℕ → Call → UserState → Answers
pipe2 s p call b =
    let flags = argument call 1 in
    unless (is_within flags o_cloexec) einval
    (pipes s p b (argument call 0) (has flags o_cloexec) (vacant s.fds.pipes))
