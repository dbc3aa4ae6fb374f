-- Which turns wake no other process that is blocked, which ones wake those alone who are in a call on a pipe, and that
-- none wakes another that is stopped.
use Rattle.std.specs.Prelude.{◌≡◌, ℕ, Bool, true, ◌&&◌, ◌||◌, ◌==◌, ◌<◌, is_none, Option, Some, None, if◌then◌else◌}
use Rattle.std.specs.FinMap as maps
use Rattle.lx_abi.specs.Calls.{has_effects}
use Rattle.lx_abi.specs.Effects as effect
use Rattle.lx_abi.specs.Signals.{is_stop}
use Rattle.lx_abi.specs.Sys.{sys_clone, sys_kill}
use Rattle.lx_abi.specs.declared.log.Call.{Call}
use Rattle.lx_abi.specs.declared.script.Choice.{Choice}
use Rattle.lx_model.specs.Turn.{Out, turn}
use Rattle.lx_model.specs.declared.event.PtraceEvent.{PtraceEvent}
use Rattle.lx_model.specs.declared.stage.Stage.{Stage}
use Rattle.lx_model.specs.declared.stage.Stage.TheVariants.{Born, Run, Faulting, Entered, Doing, Replaced, Acted, Finished, Taken, Dropped, Stopped, Released, Woken}
use Rattle.lx_model.specs.declared.stage.Task.{Task}
use Rattle.lx_model.specs.declared.stage.Task.TheVariants.{Alive, Dying, Gone}
use Rattle.lx_open.specs.Releases.{AreEndsKept}
use Rattle.lx_sig.specs.Kill.{aim}
use Rattle.lx_sig.specs.declared.kill.Aim.{Aim}
use Rattle.lx_proc.specs.declared.state.Entry.{Entry}
use Rattle.lx_proc.specs.declared.state.Shared.{Shared}
use Rattle.lx_proc.specs.declared.state.UserState.{UserState}
use Rattle.lx_turn.specs.Linux.{linux}
use Rattle.lx_turn.specs.Turned.{IsBirth}
use Rattle.lx_kernel.specs.Blocking.{IsBlocked, rests}
use Rattle.lx_kernel.specs.Pipes.{is_narrow, changed_in, pipe_at, used, IsApart}

-- From where a process stands.

-- a call that leaves others as they are; kill, which tells one; and clone, where the child's pid is free: else its
-- entry takes the place of one that some process may wait for
abbrev pub is_calm_number : Shared → ℕ → ℕ → Bool
is_calm_number s child n =
    has_effects n effect.calm || ((n == sys_kill) || ((n == sys_clone) && is_none (maps.get s.entries child)))

abbrev pub is_calm_at : Shared → ℕ → Stage → Bool
is_calm_at s child Born = true
is_calm_at s child Run = true
is_calm_at s child (Faulting signal cause) = true
is_calm_at s child (Entered joined) = true
is_calm_at s child (Doing call) = is_calm_number s child call.number
is_calm_at s child (Replaced call x) = true
is_calm_at s child (Acted call x replaced) = true
is_calm_at s child Finished = true
is_calm_at s child (Taken signal cause) = true
is_calm_at s child Dropped = true
is_calm_at s child (Stopped signal) = true
is_calm_at s child Released = true
is_calm_at s child Woken = true

abbrev pub is_calm_task : Shared → ℕ → Task UserState → Bool
is_calm_task s child (Alive b stage) = is_calm_at s child stage
is_calm_task s child (Dying w) = true
is_calm_task s child Gone = true

-- who is told of what becomes of a process
abbrev pub told_by : ℕ → Option Entry → ℕ
told_by p None = p
told_by p (Some e) = e.parent

-- whom a kill is sent to
abbrev pub aimed_at : ℕ → Option Aim → ℕ
aimed_at p None = p
aimed_at p (Some a) = a.pid

abbrev pub told_by_call : ℕ → Call → ℕ
told_by_call p call = if call.number == sys_kill then aimed_at p (aim call) else p

-- the parent of a process that takes a stop signal, so that it may be stopped
abbrev pub told_by_signal : Shared → ℕ → ℕ → ℕ
told_by_signal s p n = if is_stop n then told_by p (maps.get s.entries p) else p

abbrev pub told_at : Shared → ℕ → Stage → ℕ
told_at s p Born = p
told_at s p Run = p
told_at s p (Faulting signal cause) = p
told_at s p (Entered joined) = p
told_at s p (Doing call) = told_by_call p call
told_at s p (Replaced call x) = p
told_at s p (Acted call x replaced) = p
told_at s p Finished = p
told_at s p (Taken signal cause) = told_by_signal s p signal.number
told_at s p Dropped = p
told_at s p (Stopped signal) = told_by p (maps.get s.entries p)
told_at s p Released = p
told_at s p Woken = p

-- who is told by the turn of a process: whom its kill is sent to, and its parent where it may be stopped or continued,
-- and where it is buried
abbrev pub told_in : Shared → ℕ → Task UserState → ℕ
told_in s p (Alive b stage) = told_at s p stage
told_in s p (Dying w) = told_by p (maps.get s.entries p)
told_in s p Gone = p

-- To where a turn leaves it.

-- a turn is calm that leaves its process alive, where it was calm from where it stood, one that ends it, where each
-- description stays, and each that leaves it gone
abbrev pub LeavesSo : Bool → Shared → Shared → Task UserState → Type 0
LeavesSo alive s s' (Alive c next) = alive ≡ true
LeavesSo alive s s' (Dying w) = AreEndsKept s.fds s'.fds
LeavesSo alive s s' Gone = Unit {0}

abbrev pub IsCalm : Shared → ℕ → Task UserState → Shared → Task UserState → Type 0
IsCalm s child task s' task' = LeavesSo (is_calm_task s child task) s s' task'

-- each other process that was blocked is blocked, but for one that is told, and a child that is born; the descriptors
-- of each but the child name the ends of pipes as before
pub record Calms (s s' : Shared) (child p told : ℕ) (event : PtraceEvent UserState) : Type 0 where
  pub blocked : (q : ℕ) → 0 < q → (q ≡ p → ⊥) → (q ≡ told → ⊥) → (IsBirth event → q ≡ child → ⊥)
      → (task : Task UserState) → IsBlocked s q task → IsBlocked s' q task
  pub pipes : (q fd : ℕ) → (q ≡ p → ⊥) → (IsBirth event → q ≡ child → ⊥) → pipe_at s'.fds q fd ≡ pipe_at s.fds q fd

abbrev pub CalmTurnsWakeNobody : Type 0
CalmTurnsWakeNobody = (c : Choice) (s : Shared) (child p : ℕ) (task : Task UserState) →
    let o : Out Shared UserState = turn linux c s child p task in
    IsCalm s child task o.shared o.task → Calms s o.shared child p (told_in s p task) o.event

-- Of those that change a pipe at most.

-- a call that leaves every pipe that was there but one, or that is calm
abbrev pub is_few_number : Shared → ℕ → ℕ → Bool
is_few_number s child n = is_narrow n || is_calm_number s child n

abbrev pub is_few_at : Shared → ℕ → Stage → Bool
is_few_at s child Born = true
is_few_at s child Run = true
is_few_at s child (Faulting signal cause) = true
is_few_at s child (Entered joined) = true
is_few_at s child (Doing call) = is_few_number s child call.number
is_few_at s child (Replaced call x) = true
is_few_at s child (Acted call x replaced) = true
is_few_at s child Finished = true
is_few_at s child (Taken signal cause) = true
is_few_at s child Dropped = true
is_few_at s child (Stopped signal) = true
is_few_at s child Released = true
is_few_at s child Woken = true

abbrev pub is_few_task : Shared → ℕ → Task UserState → Bool
is_few_task s child (Alive b stage) = is_few_at s child stage
is_few_task s child (Dying w) = true
is_few_task s child Gone = true

abbrev pub IsFew : Shared → ℕ → Task UserState → Shared → Task UserState → Type 0
IsFew s child task s' task' = LeavesSo (is_few_task s child task) s s' task'

-- the same, as it is looked at
abbrev pub few_after : Task UserState → Bool → Bool → Bool
few_after (Alive c next) few ends_kept = few
few_after (Dying w) few ends_kept = ends_kept
few_after Gone few ends_kept = true

-- each other process that was blocked is blocked, but for one that is told, a child that is born, and those that are in
-- a call on the pipe that was changed; each but the child that was blocked is in a call on the same pipe, or on none
pub record WakesFew (s s' : Shared) (child p told : ℕ) (changed : Option ℕ) (event : PtraceEvent UserState)
    : Type 0 where
  pub blocked : (q : ℕ) → 0 < q → (q ≡ p → ⊥) → (q ≡ told → ⊥) → (IsBirth event → q ≡ child → ⊥)
      → (task : Task UserState) → IsApart changed s q task → IsBlocked s q task → IsBlocked s' q task
  pub uses : (q : ℕ) → (q ≡ p → ⊥) → (IsBirth event → q ≡ child → ⊥)
      → (task : Task UserState) → IsBlocked s q task → used s' q task ≡ used s q task

abbrev pub FewTurnsWakeFew : Type 0
FewTurnsWakeFew = (c : Choice) (s : Shared) (child p : ℕ) (task : Task UserState) →
    let o : Out Shared UserState = turn linux c s child p task in
    IsFew s child task o.shared o.task
    → WakesFew s o.shared child p (told_in s p task) (changed_in s p task) o.event

-- Of any turn, calm or not.

-- each other process that was stopped and blocked is blocked, but for one that is told, and a child that is born
abbrev pub LeavesStopped : Shared → Shared → ℕ → ℕ → ℕ → PtraceEvent UserState → Type 0
LeavesStopped s s' child p told event =
    (q : ℕ) → 0 < q → (q ≡ p → ⊥) → (q ≡ told → ⊥) → (IsBirth event → q ≡ child → ⊥) → (task : Task UserState)
    → rests task ≡ true
    → IsBlocked s q task
    → IsBlocked s' q task

abbrev pub TurnsLeaveStopped : Type 0
TurnsLeaveStopped = (c : Choice) (s : Shared) (child p : ℕ) (task : Task UserState) →
    let o : Out Shared UserState = turn linux c s child p task in
    LeavesStopped s o.shared child p (told_in s p task) o.event
