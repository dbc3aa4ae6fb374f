-- What is said of every call's answer: the words of ended processes stay; a program begins, a child is born and a
-- process ends by a call that has that effect alone, a child under a pid that is left, and a process with its status.
use Rattle.std.specs.Prelude.{◌≡◌, ℕ, ◌≤◌, ◌*◌, ◌%◌, true}
use Rattle.lx_abi.specs.declared.log.Call.{Call}
use Rattle.lx_abi.specs.declared.log.Cause.{Cause}
use Rattle.lx_abi.specs.declared.signal.Signal.{Signal}
use Rattle.lx_abi.specs.Calls.{has_effects}
use Rattle.lx_abi.specs.Effects.{forks, execs, exits}
use Rattle.lx_abi.specs.Signals.{is_signal, is_stop}
use Rattle.lx_model.specs.Machine.{Answer, Refused, Returns, Jumps, Execs, Bears, Blocks, Ends, Took, Passes, Stops, Kills}
use Rattle.lx_sig.specs.Calls.{argument}
use Rattle.lx_proc.specs.declared.state.Shared.{Shared}
use Rattle.lx_proc.specs.declared.state.UserState.{UserState}
use Rattle.lx_pcalls.specs.Taking.{takes}
use Rattle.lx_turn.specs.Calls.{does}

pub record Birth (child : ℕ) (s : Shared) (call : Call) (t : Shared) : Type 0 where
  pub words : t.ended ≡ s.ended
  pub console : t.console ≡ s.console
  pub left : child ≤ s.limits.last_pid
  pub call_forks : has_effects call.number forks ≡ true

abbrev pub Fits : ℕ → Shared → Call → Answer Shared UserState → Type 0
Fits child s call (Refused e) = Unit {0}
Fits child s call (Returns t b x) = t.ended ≡ s.ended
Fits child s call (Jumps t b) = t.ended ≡ s.ended
Fits child s call (Execs t b) = (t.ended ≡ s.ended) × (has_effects call.number execs ≡ true)
Fits child s call (Bears t b newborn) = Birth child s call t
Fits child s call Blocks = Unit {0}
Fits child s call (Ends w) = (has_effects call.number exits ≡ true) × (w ≡ argument call 0 % 256 * 256)

abbrev pub CallsFit : Type 0
CallsFit = (s : Shared) (child p : ℕ) (call : Call) (b : UserState) → Fits child s call (does s child p call b)

-- What is said of every signal that is taken: the words stay, a process is stopped by a stop signal, and ends by a
-- signal.
abbrev pub TookFits : Shared → Signal → Took Shared UserState → Type 0
TookFits s signal (Passes t b) = t.ended ≡ s.ended
TookFits s signal Stops = is_stop signal.number ≡ true
TookFits s signal (Kills w) = is_signal w ≡ true

abbrev pub TakesFit : Type 0
TakesFit = (s : Shared) (p : ℕ) (b : UserState) (signal : Signal) (cause : Cause)
    → TookFits s signal (takes s p b signal cause)
