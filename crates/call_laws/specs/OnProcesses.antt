-- What a call on processes, memory or signals may do, whatever its arguments.
use Rattle.std.specs.Prelude.{◌≡◌, ℕ, ◌==◌, ◌||◌, true, Some, is_some}
use Rattle.std.specs.FinMap as maps
use Rattle.lx_abi.specs.Sys.{sys_clone, sys_execve, sys_exit, sys_exit_group, sys_wait4}
use Rattle.lx_abi.specs.declared.log.Call.{Call}
use Rattle.lx_model.specs.Machine.{Refused, Returns, Jumps, Execs, Bears, Blocks, Ends}
use Rattle.lx_proc.specs.Answers.{Answers}
use Rattle.lx_proc.specs.Refusals.{is_error_of}
use Rattle.lx_proc.specs.declared.state.Shared.{Shared}
use Rattle.lx_proc.specs.declared.state.UserState.{UserState}
use Rattle.lx_pcalls.specs.Calls.{process_call}
use Rattle.lx_pcalls.specs.Errors.{process_errors}
use Rattle.call_laws.specs.Others.{LeavesTheRest}

-- wait words, limits, the input and the console stay
pub record KeepsStreams (s t : Shared) : Type 0 where
  pub words : t.ended ≡ s.ended
  pub limits : t.limits ≡ s.limits
  pub input : t.input ≡ s.input
  pub console : t.console ≡ s.console

-- so do files, descriptors and pipes
pub record KeepsFiles (s t : Shared) : Type 0 where
  pub tree : t.tree ≡ s.tree
  pub fds : t.fds ≡ s.fds

-- a caller, which has an entry, is refused with an error of the call's row; wait4 alone waits, clone alone makes a
-- child, exit and exit_group alone end a process; execve closes what is marked so
abbrev pub ProcessesAnswer : Shared → ℕ → ℕ → Call → UserState → Answers → Type 0
ProcessesAnswer s child p call b (Refused e) =
    is_some (maps.get s.entries p) ≡ true → is_error_of process_errors call.number e ≡ true
ProcessesAnswer s child p call b (Returns t c x) = LeavesTheRest child p call s t × KeepsStreams s t × KeepsFiles s t
ProcessesAnswer s child p call b (Jumps t c) = LeavesTheRest child p call s t × KeepsStreams s t × KeepsFiles s t
ProcessesAnswer s child p call b (Execs t c) =
    ((call.number == sys_execve) ≡ true) × LeavesTheRest child p call s t × KeepsStreams s t
ProcessesAnswer s child p call b (Bears t c newborn) =
    ((call.number == sys_clone) ≡ true) × LeavesTheRest child p call s t × KeepsStreams s t × (t.tree ≡ s.tree)
ProcessesAnswer s child p call b Blocks = (call.number == sys_wait4) ≡ true
ProcessesAnswer s child p call b (Ends w) = (call.number == sys_exit || call.number == sys_exit_group) ≡ true

abbrev pub ProcessesDoNoMore : Type 0
ProcessesDoNoMore = (s : Shared) (child p : ℕ) (call : Call) (b : UserState) (answer : Answers) →
    process_call s child p call b ≡ Some answer → ProcessesAnswer s child p call b answer
