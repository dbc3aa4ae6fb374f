-- fstat(fd, buf): stat(2).
use Rattle.std.specs.Prelude.{ℕ, length}
use Rattle.lx_abi.specs.declared.log.Call.{Call}
use Rattle.lx_files.specs.Trees.{content}
use Rattle.lx_open.specs.declared.description.Object.{Object}
use Rattle.lx_open.specs.declared.description.Object.TheVariants.{Input, Console, ReadEnd, WriteEnd, Opened}
use Rattle.lx_proc.specs.Answers.{Answers, argument, low_argument, gives}
use Rattle.lx_proc.specs.declared.state.UserState.{UserState}
use Rattle.lx_proc.specs.declared.state.Shared.{Shared}
use Rattle.lx_fcalls.specs.Arguments.{opened}
use Rattle.lx_fcalls.specs.Stat.{stat, file_mode, pipe_mode, device_mode}

abbrev pub tells_object : Shared → UserState → ℕ → Object → Answers
tells_object s b at Input = gives s b at (stat device_mode 0) 0
tells_object s b at Console = gives s b at (stat device_mode 0) 0
tells_object s b at (ReadEnd pipe) = gives s b at (stat pipe_mode 0) 0
tells_object s b at (WriteEnd pipe) = gives s b at (stat pipe_mode 0) 0
tells_object s b at (Opened node) = gives s b at (stat file_mode (length (content s.tree node))) 0

unfoldable pub fstat : Shared → ℕ → Call → UserState → Answers
fstat s p call b =
    opened s p (low_argument call 0) (λ named d.
    tells_object s b (argument call 1) d.object)
