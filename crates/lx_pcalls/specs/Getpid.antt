-- getpid() and gettid(): getpid(2), gettid(2). A process is one thread, which has the process's number.
use Rattle.std.specs.Prelude.{ℕ}
use Rattle.lx_model.specs.Machine.{Returns}
use Rattle.lx_proc.specs.declared.state.Shared.{Shared}
use Rattle.lx_proc.specs.declared.state.UserState.{UserState}
use Rattle.lx_proc.specs.Answers.{Answers}

abbrev pub getpid : Shared → ℕ → UserState → Answers
getpid s p b = Returns s b p
