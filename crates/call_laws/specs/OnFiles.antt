-- What a call on files may do, whatever its arguments.
use Rattle.std.specs.Prelude.{◌≡◌, ℕ, ◌==◌, ◌||◌, true, Some}
use Rattle.lx_abi.specs.Sys.{sys_read, sys_write}
use Rattle.lx_abi.specs.declared.log.Call.{Call}
use Rattle.lx_model.specs.Machine.{Refused, Returns, Jumps, Execs, Bears, Blocks, Ends}
use Rattle.lx_proc.specs.Answers.{Answers}
use Rattle.lx_proc.specs.Refusals.{is_error_of}
use Rattle.lx_proc.specs.declared.state.Shared.{Shared}
use Rattle.lx_proc.specs.declared.state.UserState.{UserState}
use Rattle.lx_fcalls.specs.Calls.{file_call}
use Rattle.lx_fcalls.specs.Errors.{file_errors}
use Rattle.call_laws.specs.Others.{LeavesOthers}

-- files, descriptors, pipes, the input and the console may change, and the caller's entry
pub record KeepsProcesses (p : ℕ) (s t : Shared) : Type 0 where
  pub others : LeavesOthers p s t
  pub words : t.ended ≡ s.ended
  pub limits : t.limits ≡ s.limits

-- of the caller's own part the memory may change
pub record KeepsRegisters (b c : UserState) : Type 0 where
  pub hart : c.hart ≡ b.hart
  pub heap : c.heap ≡ b.heap

-- it is refused with an error of its row; read and write alone wait; no process is born, ends or begins a program
abbrev pub FilesAnswer : Shared → ℕ → Call → UserState → Answers → Type 0
FilesAnswer s p call b (Refused e) = is_error_of file_errors call.number e ≡ true
FilesAnswer s p call b (Returns t c x) = KeepsProcesses p s t × KeepsRegisters b c
FilesAnswer s p call b (Jumps t c) = ⊥
FilesAnswer s p call b (Execs t c) = ⊥
FilesAnswer s p call b (Bears t c newborn) = ⊥
FilesAnswer s p call b Blocks = (call.number == sys_read || call.number == sys_write) ≡ true
FilesAnswer s p call b (Ends w) = ⊥

abbrev pub FilesDoNoMore : Type 0
FilesDoNoMore = (s : Shared) (p : ℕ) (call : Call) (b : UserState) (answer : Answers) →
    file_call s p call b ≡ Some answer → FilesAnswer s p call b answer
