-- dup(fd): dup(2). The new descriptor is not closed by execve.
use Rattle.std.specs.Prelude.{ℕ, false}
use Rattle.lx_abi.specs.Errnos.{ebadf, emfile}
use Rattle.lx_abi.specs.declared.log.Call.{Call}
use Rattle.lx_model.specs.Machine.{Returns}
use Rattle.lx_open.specs.declared.description.Slot.{Slot}
use Rattle.lx_open.specs.Opens.{with_slot}
use Rattle.lx_open.specs.Opens as opens
use Rattle.lx_proc.specs.Answers.{Answers, low_argument, given}
use Rattle.lx_proc.specs.State.{with_fds}
use Rattle.lx_proc.specs.declared.state.UserState.{UserState}
use Rattle.lx_proc.specs.declared.state.Shared.{Shared}

unfoldable pub dup : Shared → ℕ → Call → UserState → Answers
dup s p call b =
    given (opens.slot s.fds p (low_argument call 0)) ebadf (λ named.
    given (opens.free s.fds.slots p) emfile (λ fd.
    let copy : Slot = record { description = named.description; closes_on_exec = false } in
    Returns (with_fds s (with_slot s.fds p fd copy)) b fd))
