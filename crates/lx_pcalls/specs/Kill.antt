-- kill(pid, sig): kill(2).
use Rattle.std.specs.Prelude.{ℕ, Option, Some, None}
use Rattle.std.specs.FinMap as maps
use Rattle.lx_abi.specs.Errnos.{esrch, einval}
use Rattle.lx_abi.specs.declared.log.Call.{Call}
use Rattle.lx_abi.specs.declared.log.Cause.TheVariants.{Sent}
use Rattle.lx_abi.specs.declared.signal.Signal.{Signal}
use Rattle.lx_model.specs.Machine.{Returns}
use Rattle.lx_sig.specs.Kill.{aim}
use Rattle.lx_sig.specs.declared.kill.Aim.{Aim}
use Rattle.lx_proc.specs.declared.state.Shared.{Shared}
use Rattle.lx_proc.specs.declared.state.Entry.{Entry}
use Rattle.lx_proc.specs.declared.state.UserState.{UserState}
use Rattle.lx_proc.specs.declared.state.Life.{Life}
use Rattle.lx_proc.specs.declared.state.Life.TheVariants.{Alive, Dying, Zombie}
use Rattle.lx_proc.specs.State.{changed, with_entries}
use Rattle.lx_proc.specs.Sending.{receives}
use Rattle.lx_proc.specs.Answers.{Answers, given}

-- what is sent to a process that ends, or has ended, has no effect
abbrev pub sent_to : Entry → Life → ℕ → Signal → Entry
sent_to e Alive p signal = receives e signal (Sent p)
sent_to e (Dying w) p signal = e
sent_to e (Zombie w) p signal = e

-- signal 0 asks only whether the process is there
abbrev pub sends : Shared → ℕ → ℕ → Option Signal → Shared
sends s p target None = s
sends s p target (Some signal) = with_entries s (changed s.entries target (λ e. sent_to e e.life p signal))

abbrev pub kills : Shared → ℕ → UserState → Aim → Answers
kills s p b a = given (maps.get s.entries a.pid) esrch (λ e. Returns (sends s p a.pid a.signal) b 0)

unfoldable pub kill : Shared → ℕ → Call → UserState → Answers
kill s p call b = given (aim call) einval (kills s p b)
