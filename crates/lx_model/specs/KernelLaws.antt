-- Laws of the kernel itself: whose turn does what, which pids there are, which occurrence a call is.
use Rattle.std.specs.Prelude.{◌≡◌, ◌≢◌, ◌≤◌, ℕ, suc, Bool, cond, List}
use Rattle.lx_abi.specs.Log.{items_of, entries}
use Rattle.lx_abi.specs.Scripts.{no_choice}
use Rattle.lx_model.specs.Machine.{a7_of, Machine}
use Rattle.lx_model.specs.Turn.{Stage, Alive, Gone, Born, Forked, turn}
use Rattle.lx_model.specs.Kernel.{Script, traces, Kernel, turn_of, kernel_turn, kernel_run, first_kernel}

-- a turn of a pid under which no process is changes nothing
abbrev pub NobodyTakesNoTurn : Type 0 → Type 0 → Type 0
NobodyTakesNoTurn S B = (m : Machine S B) (script : Script) (follow : Bool) (k : Kernel S B) (p : ℕ) →
    k.tasks p ≡ Gone → kernel_turn m script follow k p ≡ k

-- Pids

-- nobody is under the next pid, nor under any above it
abbrev pub IsFresh : {S B : Type 0} → Kernel S B → Type 0
IsFresh k = (q : ℕ) → k.child ≤ q → k.tasks q ≡ Gone

abbrev pub FirstIsFresh : Type 0 → Type 0 → Type 0
FirstIsFresh S B = (s : S) (b : B) → IsFresh (first_kernel s b)

abbrev pub RunsStayFresh : Type 0 → Type 0 → Type 0
RunsStayFresh S B = (m : Machine S B) (script : Script) (follow : Bool) (k : Kernel S B) →
    IsFresh k → (pids : List ℕ) → IsFresh (kernel_run m script follow k pids)

-- a child that is born gets the next pid, and the one after it is next
pub record IsGiven {S B : Type 0} (before after : Kernel S B) (b : B) : Type 0 where
  pub free : before.tasks before.child ≡ Gone
  pub taken : after.tasks before.child ≡ Alive b Born
  pub rises : after.child ≡ suc before.child

abbrev pub PidsAreGivenOnce : Type 0 → Type 0 → Type 0
PidsAreGivenOnce S B = (m : Machine S B) (script : Script) (follow : Bool) (k : Kernel S B) (p : ℕ) (b : B) →
    IsFresh k → (turn_of m script follow k p).event ≡ Forked b → IsGiven k (kernel_turn m script follow k p) b

-- no pid is given again
abbrev pub PidsRise : Type 0 → Type 0 → Type 0
PidsRise S B = (m : Machine S B) (script : Script) (follow : Bool) (k : Kernel S B) (pids : List ℕ) →
    k.child ≤ (kernel_run m script follow k pids).child

-- Occurrences

-- entries are counted by process and call: a turn of another process counts none
abbrev pub OthersCountNothing : Type 0 → Type 0 → Type 0
OthersCountNothing S B = (m : Machine S B) (script : Script) (follow : Bool) (k : Kernel S B) (p q call : ℕ) → q ≢ p →
    entries q call (items_of (kernel_turn m script follow k p).log) ≡ entries q call (items_of k.log)

-- at a call's entry the choice is the script's for this call of this process, by how often it entered it
abbrev pub ChoicesAreByOccurrence : Type 0 → Type 0 → Type 0
ChoicesAreByOccurrence S B = (m : Machine S B) (script : Script) (follow : Bool) (k : Kernel S B) (p : ℕ) (b : B)
    (stage : Stage) → k.tasks p ≡ Alive b stage →
    turn_of m script follow k p
    ≡ turn m
    (cond (traces follow p) (script (a7_of (m.regs b)) (entries p (a7_of (m.regs b)) (items_of k.log))) no_choice)
    k.shared k.child p (Alive b stage)
