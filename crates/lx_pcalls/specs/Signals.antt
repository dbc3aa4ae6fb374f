-- What calls on a process's own signals do to it.
use Rattle.std.specs.Prelude.{ℕ}
use Rattle.std.specs.declared.result.Result.TheVariants.{Ok, Err}
use Rattle.lx_model.specs.Machine.{Refused, Returns}
use Rattle.lx_sig.specs.Calls.{Outcome}
use Rattle.lx_proc.specs.declared.state.Shared.{Shared}
use Rattle.lx_proc.specs.declared.state.UserState.{UserState}
use Rattle.lx_proc.specs.State.{with_signals_at, with_memory}
use Rattle.lx_proc.specs.Answers.{Answers}

-- the signals and the memory that a call leaves, and the result 0
abbrev pub leaves : Shared → ℕ → UserState → Outcome → Answers
leaves s p b (Err error) = Refused error
leaves s p b (Ok c) = Returns (with_signals_at s p c.signals) (with_memory b c.memory) 0
