-- Who is stopped, and that SIGCONT isn't lost (signal(7); POSIX, "Signal Generation and Delivery").
use Rattle.std.specs.Prelude.{◌≡◌, ℕ, Bool, true, false, List, Option, Some, None, refl}
use Rattle.std.specs.FinMap as maps
use Rattle.lx_abi.specs.Signals.{is_stop}
use Rattle.lx_abi.specs.declared.boot.Boot.{Boot}
use Rattle.lx_abi.specs.declared.log.Cause.{Cause}
use Rattle.lx_abi.specs.declared.script.Choice.{Choice}
use Rattle.lx_abi.specs.declared.signal.Signal.{Signal}
use Rattle.lx_model.specs.Kernel.{Script, Kernel, first_kernel, kernel_turn, kernel_run}
use Rattle.lx_model.specs.Turn.{turn, gives}
use Rattle.lx_model.specs.declared.stage.Stage.{Stage}
use Rattle.lx_model.specs.declared.stage.Stage.TheVariants.{Born, Run, Faulting, Entered, Doing, Replaced, Acted, Finished, Taken, Dropped, Stopped, Released, Woken}
use Rattle.lx_model.specs.declared.stage.Task.{Task}
use Rattle.lx_model.specs.declared.stage.Task.TheVariants as task
use Rattle.lx_sig.specs.declared.state.Job.{Job}
use Rattle.lx_sig.specs.declared.state.Job.TheVariants.{Free, AtStop}
use Rattle.lx_proc.specs.declared.state.Entry.{Entry}
use Rattle.lx_proc.specs.declared.state.Shared.{Shared}
use Rattle.lx_proc.specs.declared.state.UserState.{UserState}
use Rattle.lx_proc.specs.State.{with_entries}
use Rattle.lx_proc.specs.Sending.{sent}
use Rattle.lx_pcalls.specs.Stops.{is_continued_at, woken}
use Rattle.lx_boot.specs.Boots.{fault_of}
use Rattle.lx_boot.specs.First.{first_shared}
use Rattle.lx_exec.specs.Programs.{booted}
use Rattle.lx_turn.specs.Linux.{linux}
use Rattle.lx_turn.specs.Reactions.{is_killed}
use Rattle.lx_kernel.specs.Blocking.{can_turn}
use Rattle.lx_sound.specs.Sound.{IsSound}

-- the process is at a stop signal that it took, or stopped
abbrev pub is_at_stop : Job → Bool
is_at_stop Free = false
is_at_stop (AtStop continued) = true

-- what a process's signals say of it is where it stands; a tracer may have dropped its signal, or let it go on
abbrev pub Stands : Job → Stage → Type 0
Stands job Born = is_at_stop job ≡ false
Stands job Run = is_at_stop job ≡ false
Stands job (Faulting signal cause) = (is_at_stop job ≡ false) × (is_stop signal.number ≡ false)
Stands job (Entered joined) = is_at_stop job ≡ false
Stands job (Doing call) = is_at_stop job ≡ false
Stands job (Replaced call x) = is_at_stop job ≡ false
Stands job (Acted call x replaced) = is_at_stop job ≡ false
Stands job Finished = is_at_stop job ≡ false
Stands job (Taken signal cause) = is_at_stop job ≡ is_stop signal.number
Stands job Dropped = Unit {0}
Stands job (Stopped signal) = is_at_stop job ≡ true
Stands job Released = Unit {0}
Stands job Woken = is_at_stop job ≡ false

abbrev pub JobFits : Option Entry → Task UserState → Type 0
JobFits None x = Unit {0}
JobFits (Some e) (task.Alive b stage) = Stands e.signals.job stage
JobFits (Some e) (task.Dying w) = Unit {0}
JobFits (Some e) task.Gone = Unit {0}

-- so of each process
abbrev pub JobsFit : Kernel Shared UserState → Type 0
JobsFit k = (p : ℕ) → JobFits (maps.get k.shared.entries p) (k.tasks p)

-- a turn of any process keeps this, under every script
abbrev pub TurnsKeepJobs : Type 0
TurnsKeepJobs = (script : Script) (follow : Bool) (k : Kernel Shared UserState) (p : ℕ) → IsSound k → JobsFit k →
    JobsFit (kernel_turn linux script follow k p)

-- so it holds after any turns, from a boot that isn't refused
abbrev pub KernelsHaveJobs : Type 0
KernelsHaveJobs = (script : Script) (follow : Bool) (boot : Boot) (pids : List ℕ) → fault_of boot ≡ None →
    JobsFit (kernel_run linux script follow
    (first_kernel (first_shared boot.limits boot.files boot.input) (booted boot.argv boot.env)) pids)

abbrev pub sigcont : Signal
sigcont = record { number = 18; in_range = refl }

-- SIGCONT that is sent to a stopped process, by whomever, lets it go on: it can take a turn, and by that turn, unless
-- SIGKILL ends it, it is woken
pub record GoesOn (s : Shared) (child p : ℕ) (b : UserState) (signal : Signal) : Type 0 where
  pub can : can_turn s p (task.Alive b (Stopped signal)) ≡ true
  pub wakes : (c : Choice) → is_killed (maps.get s.entries p) ≡ false →
      turn linux c s child p (task.Alive b (Stopped signal)) ≡ gives (woken s p) (task.Alive b Woken)

abbrev pub ContinueWakes : Type 0
ContinueWakes = (k : Kernel Shared UserState) (p : ℕ) (b : UserState) (signal : Signal) (cause : Cause) →
    IsSound k → JobsFit k → k.tasks p ≡ task.Alive b (Stopped signal) →
    GoesOn (with_entries k.shared (sent k.shared.entries p sigcont cause)) k.child p b signal

-- and no turn of another takes that back: a process that SIGCONT was sent to stays so until its own turn
abbrev pub ContinuesStay : Type 0
ContinuesStay = (script : Script) (follow : Bool) (k : Kernel Shared UserState) (p q : ℕ) → IsSound k → JobsFit k →
    (q ≡ p → ⊥) → is_continued_at (maps.get k.shared.entries q) ≡ true →
    (b : UserState) (stage : Stage) → k.tasks q ≡ task.Alive b stage →
    is_continued_at (maps.get (kernel_turn linux script follow k p).shared.entries q) ≡ true
