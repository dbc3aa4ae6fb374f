-- What each call means (section 2 of the manual pages): a call on files, or else one on processes, memory or signals.
use Rattle.std.specs.Prelude.{ℕ}
use Rattle.std.specs.Option.{unwrap_or}
use Rattle.lx_abi.specs.Errnos.{enosys}
use Rattle.lx_abi.specs.declared.log.Call.{Call}
use Rattle.lx_model.specs.Machine.{Answer, Refused}
use Rattle.lx_proc.specs.declared.state.Shared.{Shared}
use Rattle.lx_proc.specs.declared.state.UserState.{UserState}
use Rattle.lx_fcalls.specs.Calls.{file_call}
use Rattle.lx_pcalls.specs.Calls.{process_call}
use Rattle.lx_pcalls.specs.Interruption.{interruptible}

abbrev pub Answers : Type 0
Answers = Answer Shared UserState

-- a number that no call has is refused
abbrev pub called : Shared → ℕ → ℕ → Call → UserState → Answers
called s child p call b = unwrap_or (file_call s p call b) (unwrap_or (process_call s child p call b) (Refused enosys))

-- the pid that a child would get, the process and its call; a call that would block can be interrupted
unfoldable pub does : Shared → ℕ → ℕ → Call → UserState → Answers
does s child p call b = interruptible s p b (called s child p call b)
