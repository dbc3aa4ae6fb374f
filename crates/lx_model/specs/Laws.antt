-- The kernel over finite maps, which code has as a value, runs as the kernel over functions does; and laws that show
-- what the mode table means.
use Rattle.std.specs.Prelude.{◌≡◌, ℕ, Bool, true, false, List}
use Rattle.lx_abi.specs.declared.log.Cause.{Cause}
use Rattle.lx_abi.specs.declared.script.Choice.{Choice}
use Rattle.lx_abi.specs.declared.signal.Signal.{Signal}
use Rattle.lx_model.specs.Machine.{Machine, Stops}
use Rattle.lx_model.specs.Turn.{gives, turn}
use Rattle.lx_model.specs.declared.stage.Stage.TheVariants.{Run, Taken, Stopped}
use Rattle.lx_model.specs.declared.stage.Task.TheVariants.{Alive}
use Rattle.lx_model.specs.Kernel.{Script, Kernel, kernel_turn, kernel_run, first_kernel}
use Rattle.lx_model.specs.Finite.{Running, first_running, running, Is}

-- the plain kernel begins as its definition does
abbrev pub KernelsBeginAlike : Type 0 → Type 0 → Type 0
KernelsBeginAlike S B = (s : S) (b : B) → Is (first_running s b) (first_kernel s b)

-- the values that code has run as the kernel does, under every script
abbrev pub RunsAlike : {S B : Type 0} → Machine S B → Type 0
RunsAlike {S} {B} m = (script : Script) (follow : Bool) (v : Running S B) (k : Kernel S B) → Is v k →
    (pids : List ℕ) → Is (running m script follow v pids) (kernel_run m script follow k pids)

-- on every machine over these two types
abbrev pub KernelsRunAlike : Type 0 → Type 0 → Type 0
KernelsRunAlike S B = (m : Machine S B) → RunsAlike m

-- a process in a group stop does nothing until SIGCONT or SIGKILL comes
abbrev pub TheStoppedStay : Type 0 → Type 0 → Type 0
TheStoppedStay S B =
    (m : Machine S B) (script : Script) (follow : Bool) (k : Kernel S B) (p : ℕ) (b : B) (signal : Signal) →
    k.tasks p ≡ Alive b (Stopped signal) → m.killed k.shared p ≡ false → m.continued k.shared p ≡ false →
    kernel_turn m script follow k p ≡ k

-- SIGCONT that comes before a taken stop signal has stopped the process isn't lost: it goes on, and nothing is logged
abbrev pub ContinuedInTime : Type 0 → Type 0 → Type 0
ContinuedInTime S B =
    (m : Machine S B) (c : Choice) (s : S) (child p : ℕ) (b : B) (signal : Signal) (cause : Cause) →
    m.killed s p ≡ false → m.take s p signal cause b ≡ Stops → m.continued s p ≡ true →
    turn m c s child p (Alive b (Taken signal cause)) ≡ gives (m.settle s p) (Alive b Run)
