-- getppid(): getppid(2). The parent of process 1, and of an orphan, is 0.
use Rattle.std.specs.Prelude.{ℕ}
use Rattle.lx_model.specs.Machine.{Returns}
use Rattle.lx_proc.specs.declared.state.Shared.{Shared}
use Rattle.lx_proc.specs.declared.state.UserState.{UserState}
use Rattle.lx_proc.specs.Answers.{Answers, at_entry}

abbrev pub getppid : Shared → ℕ → UserState → Answers
getppid s p b = at_entry s p (λ e. Returns s b e.parent)
