-- What the manual pages say of calls as a whole: of a refusal, of fork, of exec.
use Rattle.std.specs.Prelude.{◌≡◌, ℕ, false, Some, None, if◌then◌else◌}
use Rattle.std.specs.FinMap as maps
use Rattle.lx_abi.specs.Errors.{error_word}
use Rattle.lx_abi.specs.declared.log.Call.{Call}
use Rattle.lx_abi.specs.declared.script.Choice.{Choice}
use Rattle.lx_model.specs.Machine.{with_result, Refused, Execs, Bears}
use Rattle.lx_model.specs.Turn.{Out, turn}
use Rattle.lx_model.specs.declared.stage.Stage.TheVariants.{Doing, Acted}
use Rattle.lx_model.specs.declared.stage.Task.TheVariants.{Alive}
use Rattle.lx_open.specs.Opens.{slot}
use Rattle.lx_open.specs.declared.description.Slot.{Slot}
use Rattle.lx_proc.specs.declared.state.Shared.{Shared}
use Rattle.lx_proc.specs.declared.state.UserState.{UserState}
use Rattle.lx_turn.specs.Calls.{does}
use Rattle.lx_turn.specs.Linux.{linux}
use Rattle.lx_turn.specs.Reactions.{is_killed}

-- ERRORS: a call that is refused changes nothing but its result, nothing that is shared and no byte of its caller
pub record IsRefused (s : Shared) (b : UserState) (call : Call) (e : ℕ) (o : Out Shared UserState) : Type 0 where
  pub shared : o.shared ≡ s
  pub task : o.task ≡ Alive (with_result linux b (error_word e)) (Acted call (error_word e) false)
  pub memory : (with_result linux b (error_word e)).memory ≡ b.memory

abbrev pub RefusedCallsChangeNothing : Type 0
RefusedCallsChangeNothing = (c : Choice) (s : Shared) (child p : ℕ) (b : UserState) (call : Call) (e : ℕ) →
    is_killed (maps.get s.entries p) ≡ false → does s child p call b ≡ Refused e →
    IsRefused s b call e (turn linux c s child p (Alive b (Doing call)))

-- fork(2): the child begins with what its parent has in memory, and a call of the parent changes none of that
abbrev pub ChildrenBeginAlike : Type 0
ChildrenBeginAlike = (s : Shared) (child p : ℕ) (b : UserState) (call : Call) (t : Shared) (c newborn : UserState) →
    does s child p call b ≡ Bears t c newborn → (newborn.memory ≡ b.memory) × (c.memory ≡ b.memory)

-- execve(2), open(2) of O_CLOEXEC: a new program has the descriptors of the old one but those that are marked
abbrev pub ProgramsKeepDescriptors : Type 0
ProgramsKeepDescriptors =
    (s : Shared) (child p : ℕ) (b : UserState) (call : Call) (t : Shared) (c : UserState) (fd : ℕ) (named : Slot) →
    does s child p call b ≡ Execs t c → slot s.fds p fd ≡ Some named →
    slot t.fds p fd ≡ (if named.closes_on_exec then None else Some named)
