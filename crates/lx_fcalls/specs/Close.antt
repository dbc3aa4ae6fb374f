-- close(fd): close(2).
use Rattle.std.specs.Prelude.{ℕ}
use Rattle.lx_abi.specs.Errnos.{ebadf}
use Rattle.lx_abi.specs.declared.log.Call.{Call}
use Rattle.lx_model.specs.Machine.{Returns}
use Rattle.lx_open.specs.Releases.{closed}
use Rattle.lx_open.specs.Opens as opens
use Rattle.lx_proc.specs.Answers.{Answers, low_argument, given}
use Rattle.lx_proc.specs.State.{with_held}
use Rattle.lx_proc.specs.declared.state.UserState.{UserState}
use Rattle.lx_proc.specs.declared.state.Shared.{Shared}

unfoldable pub close : Shared → ℕ → Call → UserState → Answers
close s p call b =
    let fd = low_argument call 0 in
    given (opens.slot s.fds p fd) ebadf (λ named. Returns (with_held s (closed s.tree s.fds p fd)) b 0)
