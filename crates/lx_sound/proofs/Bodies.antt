-- What calls leave of the caller's memory is within the most pages.
use Rattle.std.proofs.Common.{ℕ}
use Rattle.lx_abi.specs.declared.log.Call.{Call}
use Rattle.lx_model.specs.Machine.{Refused, Returns, Jumps, Execs, Bears, Blocks, Ends}
use Rattle.lx_proc.specs.declared.state.Shared.{Shared}
use Rattle.lx_proc.specs.declared.state.UserState.{UserState}
use Rattle.lx_proc.specs.Answers.{Answers}
use Rattle.lx_fcalls.proofs.FileAnswers.{OfFiles}
use Rattle.lx_sound.specs.Pages.{HasFewPages}
use Rattle.lx_sound.proofs.Pages.{written_few}

-- the memories that an answer leaves
abbrev pub LeavesFew : Answers → Type 0
LeavesFew (Refused e) = Unit {0}
LeavesFew (Returns t c x) = HasFewPages c.memory
LeavesFew (Jumps t c) = HasFewPages c.memory
LeavesFew (Execs t c) = HasFewPages c.memory
LeavesFew (Bears t c newborn) = HasFewPages c.memory × HasFewPages newborn.memory
LeavesFew Blocks = Unit {0}
LeavesFew (Ends w) = Unit {0}

pub files_few : (s : Shared) (p : ℕ) (call : Call) (b : UserState) → HasFewPages b.memory → OfFiles s p call b LeavesFew
files_few s p call b few = record {
  refuses = λ e listed. tt;
  waits = λ k. tt;
  returns = λ tree fds input console x. few;
  writes = λ tree fds input console at bytes x. written_few b.memory at bytes few;
  goes = λ path. few;
  breaks = few;
}
