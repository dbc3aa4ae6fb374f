-- What the definitions owe each other, and laws that show what they mean.
use Rattle.std.specs.Prelude.{◌≡◌, ◌≢◌, ◌⊎◌, ℕ, ◌+◌, ◌==◌, ◌≤◌, ◌<◌, Bool, true, false, cond, List, [], ◌∷◌, ◌++◌, Option, Some, length, filter}
use Rattle.lx_abi.specs.declared.outcome.Outcome.{Outcome}
use Rattle.lx_abi.specs.declared.ptrace.Request.TheVariants.{Wait}
use Rattle.lx_abi.specs.declared.status.EventStop.TheVariants.{Fork as At_fork, Stop as At_start}
use Rattle.lx_abi.specs.declared.status.Stop.{Stop}
use Rattle.lx_abi.specs.declared.status.Stop.TheVariants.{Group as Group_stop, Event as Event_stop, Ended}
use Rattle.lx_abi.specs.declared.signal.Signal.{Signal}
use Rattle.lx_abi.specs.Log.{Noted}
use Rattle.lx_model.specs.Machine.{Machine}
use Rattle.lx_model.specs.declared.event.PtraceEvent.TheVariants.{Forked}
use Rattle.lx_model.specs.Turn.{kill_word}
use Rattle.lx_model.specs.declared.stage.Stage.{Stage}
use Rattle.lx_model.specs.declared.stage.Stage.TheVariants.{Stopped}
use Rattle.lx_model.specs.declared.stage.Task.{Task}
use Rattle.lx_model.specs.declared.stage.Task.TheVariants.{Alive, Dying, Gone}
use Rattle.lx_model.specs.Kernel.{Script, Kernel, kernel_turn, kernel_run, first_kernel}
use Rattle.lx_abi.specs.declared.ptrace.TraceOptions.{TraceOptions}
use Rattle.pt_model.specs.Ptrace.{Host, Report, is_dying, is_effective, host_turn, host_turn_of}
use Rattle.pt_model.specs.Requests.{told, serve}
use Rattle.pt_model.specs.View.{view, has_exit, has_kill}
use Rattle.pt_model.specs.Admissible.{After_signal, Halted}
use Rattle.pt_model.specs.Parts.{Options}
use Rattle.pt_model.specs.Tracer.{Known, admits_stop}

-- a turn of one process leaves what every other has to itself
abbrev pub KernelTurnsApart : Type 0 → Type 0 → Type 0
KernelTurnsApart S B =
    (m : Machine S B) (script : Script) (follow : Bool) (k : Kernel S B) (p q : ℕ) → p ≢ q → k.child ≢ q →
    (kernel_turn m script follow k p).tasks q ≡ k.tasks q

abbrev pub HostTurnsApart : Type 0 → Type 0 → Type 0
HostTurnsApart S B = (m : Machine S B) (h : Host S B) (p q : ℕ) → p ≢ q → h.child ≢ q →
    (host_turn m h p).procs q ≡ h.procs q

abbrev pub is_alive : {B : Type 0} → Task B → Bool
is_alive (Alive b stage) = true
is_alive (Dying word) = false
is_alive Gone = false

-- a process that was born and lives no more has logged its end
abbrev pub TheDeadHaveEnded : Type 0 → Type 0 → Type 0
TheDeadHaveEnded S B = (m : Machine S B) (script : Script) (follow : Bool) (s : S) (b : B) (pids : List ℕ) (q : ℕ) →
    let k : Kernel S B = kernel_run m script follow (first_kernel s b) pids in
    1 ≤ q → q < k.child → is_alive (k.tasks q) ≡ false → has_exit q k.log ≡ true

-- a turn of a held process changes nothing
abbrev pub TheHeldAreStill : Type 0 → Type 0 → Type 0
TheHeldAreStill S B = (m : Machine S B) (h : Host S B) (p : ℕ) →
    (h.procs p).held ≡ true → m.killed h.shared p ≡ false → host_turn m h p ≡ h

-- but for SIGKILL, by which a held tracee that lives is dying
abbrev pub TheHeldCanBeKilled : Type 0 → Type 0 → Type 0
TheHeldCanBeKilled S B =
    (m : Machine S B) (h : Host S B) (p : ℕ) (b : B) (stage : Stage) (w : TraceOptions) →
    h.procs p ≡ record { task = Alive b stage; held = true; options = Some w } → m.killed h.shared p ≡ true →
    (host_turn m h p).procs p ≡ record { task = Dying kill_word; held = true; options = Some w }

-- a tracer that has let go of a stopped process by Listen hears nothing of it until SIGCONT or SIGKILL comes
abbrev pub WhoListensStays : Type 0 → Type 0 → Type 0
WhoListensStays S B =
    (m : Machine S B) (h : Host S B) (p : ℕ) (b : B) (signal : Signal) (w : Option TraceOptions) →
    h.procs p ≡ record { task = Alive b (Stopped signal); held = false; options = w } →
    m.killed h.shared p ≡ false → m.continued h.shared p ≡ false → host_turn m h p ≡ h

-- a tracer admits a group stop by the signal whose stop it was told of last, and no other
abbrev pub AStopComesOfItsSignal : Type 0
AStopComesOfItsSignal =
    (o : Options) (p : ℕ) (k : Known) (signal : Signal) → admits_stop o p k (Some (Group_stop signal)) ≡ true →
    (passed : Signal) × ((k.standing ≡ After_signal passed) × (passed.number ≡ signal.number))

-- and then that it has ended, or SIGKILL
abbrev pub AStopEndsFirst : Type 0
AStopEndsFirst =
    (o : Options) (p : ℕ) (k : Known) (stop : Stop) → k.standing ≡ Halted → admits_stop o p k (Some stop) ≡ true →
    (stop ≡ Event_stop At_start) ⊎ (stop ≡ Ended kill_word)

-- Wait tells the first report, and takes it
abbrev pub FirstReportIsTold : Type 0 → Type 0 → Type 0
FirstReportIsTold S B =
    (m : Machine S B) (outcome : S → Outcome) (h : Host S B) (r : Report) (rest : List Report) →
    h.queue ≡ r ∷ rest →
    ((serve m outcome h Wait).reply ≡ Some (told r.pid r.stop)) × ((serve m outcome h Wait).host.queue ≡ rest)

-- under TRACEFORK the parent's EVENT_FORK comes before the child's EVENT_STOP, and both come last
abbrev pub ForkIsToldFirst : Type 0 → Type 0 → Type 0
ForkIsToldFirst S B =
    (m : Machine S B) (h : Host S B) (p : ℕ) (w : TraceOptions) (born : B) →
    (h.procs p).options ≡ Some w → w.forks ≡ true →
    is_effective m h.shared p (h.procs p) ≡ true → (host_turn_of m h p).event ≡ Forked born →
    (host_turn m h p).queue
    ≡ h.queue ++ record { pid = p; stop = Event_stop At_fork }
    ∷ record { pid = h.child; stop = Event_stop At_start } ∷ []

-- how many reports of a process stand in the queue
abbrev pub reports_for : ℕ → List Report → ℕ
reports_for q queue = length (filter (λ r. q == r.pid) queue)

abbrev pub one_if : Bool → ℕ
one_if b = cond b 1 0

-- a turn that reaches the kernel reports its process once where it leaves it held, and else not at all;
-- a dying process has no other report
abbrev pub OneReportAStop : Type 0 → Type 0 → Type 0
OneReportAStop S B =
    (m : Machine S B) (h : Host S B) (p : ℕ) → p ≢ h.child → is_effective m h.shared p (h.procs p) ≡ true →
    reports_for p (host_turn m h p).queue
    ≡ cond (is_dying (host_turn_of m h p).task) 0 (reports_for p h.queue) + one_if ((host_turn m h p).procs p).held

-- and it reports nobody else, but for a child
abbrev pub NoOtherReport : Type 0 → Type 0 → Type 0
NoOtherReport S B = (m : Machine S B) (h : Host S B) (p q : ℕ) → p ≢ q → h.child ≢ q →
    reports_for q (host_turn m h p).queue ≡ reports_for q h.queue

-- a log without an end by SIGKILL has one view, itself
abbrev pub NoKillNoLoss : Type 0
NoKillNoLoss = (lost : ℕ → Bool) (log : List Noted) → has_kill log ≡ false → view lost log ≡ log
