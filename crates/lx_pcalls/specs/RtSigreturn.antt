-- rt_sigreturn(): sigreturn(2). The process goes on with what stands in the frame at its stack pointer.
use Rattle.std.specs.Prelude.{ℕ, is_some, not}
use Rattle.lx_abi.specs.Errnos.{efault}
use Rattle.lx_model.specs.Machine.{Jumps}
use Rattle.lx_sig.specs.Frames.{return_fault, frame_at, popped_hart, popped_mask}
use Rattle.lx_proc.specs.declared.state.Shared.{Shared}
use Rattle.lx_proc.specs.declared.state.UserState.{UserState}
use Rattle.lx_proc.specs.State.{with_signals_at, with_hart}
use Rattle.lx_proc.specs.Answers.{Answers, unless, at_entry}

abbrev pub rt_sigreturn : Shared → ℕ → UserState → Answers
rt_sigreturn s p b =
    at_entry s p (λ e.
    unless (not (is_some (return_fault b.memory b.hart))) efault
    (Jumps (with_signals_at s p (popped_mask e.signals (frame_at b.memory b.hart)))
    (with_hart b (popped_hart (frame_at b.memory b.hart)))))
