-- rt_sigprocmask(how, set, oldset, sigsetsize): sigprocmask(2).
use Rattle.std.specs.Prelude.{ℕ}
use Rattle.lx_abi.specs.declared.log.Call.{Call}
use Rattle.lx_sig.specs.Sigprocmask.{sigprocmask}
use Rattle.lx_proc.specs.declared.state.Shared.{Shared}
use Rattle.lx_proc.specs.declared.state.UserState.{UserState}
use Rattle.lx_proc.specs.Answers.{Answers, at_entry}
use Rattle.lx_pcalls.specs.Signals.{leaves}

abbrev pub rt_sigprocmask : Shared → ℕ → Call → UserState → Answers
rt_sigprocmask s p call b = at_entry s p (λ e. leaves s p b (sigprocmask e.signals b.memory call))
