-- A child is born under a pid that is left, in a turn that leaves the console.
use Rattle.std.proofs.Common.{◌≡◌, ℕ, ◌≤◌, Bool, true, false, Option, Some, None}
use Rattle.std.specs.FinMap as maps
use Rattle.std.specs.Global.{Box}
use Rattle.rv_hart.specs.declared.outcome.Step.{Step}
use Rattle.rv_hart.specs.declared.outcome.Step.TheVariants as step
use Rattle.rv_hart.specs.Steps.{Outcome, stepped as instruction}
use Rattle.lx_abi.specs.declared.log.Call.{Call}
use Rattle.lx_abi.specs.declared.log.Cause.{Cause}
use Rattle.lx_abi.specs.declared.signal.Signal.{Signal}
use Rattle.lx_abi.specs.declared.script.Choice.{Choice}
use Rattle.lx_model.specs.Machine.{Answer, Refused, Returns, Jumps, Execs, Bears, Blocks, Ends, Took, Passes, Stops, Kills}
use Rattle.lx_model.specs.declared.event.PtraceEvent.{PtraceEvent}
use Rattle.lx_model.specs.declared.event.PtraceEvent.TheVariants.{Plain, Execed, Forked}
use Rattle.lx_model.specs.Turn.{Out, turn, killed_or, lives, stepped, answered, halts, took, wakes}
use Rattle.lx_model.specs.declared.stage.Stage.{Stage}
use Rattle.lx_model.specs.declared.stage.Stage.TheVariants.{Born, Run, Faulting, Entered, Doing, Replaced, Acted, Finished, Taken, Dropped, Stopped, Released, Woken}
use Rattle.lx_model.specs.declared.stage.Task.{Task}
use Rattle.lx_model.specs.declared.stage.Task.TheVariants.{Alive, Dying, Gone}
use Rattle.lx_proc.specs.declared.state.Shared.{Shared}
use Rattle.lx_proc.specs.declared.state.UserState.{UserState}
use Rattle.lx_sig.specs.declared.state.Interrupted.{Interrupted}
use Rattle.lx_turn.specs.Calls.{does}
use Rattle.lx_turn.specs.Fitting.{Fits}
use Rattle.lx_turn.specs.Turned.{unboxed, IsLeft, IsBirth}
use Rattle.lx_pcalls.specs.Stops.{is_continued_at}
use Rattle.lx_pcalls.specs.Taking.{takes}
use Rattle.lx_turn.specs.Linux.{linux}
use Rattle.lx_turn.specs.Reactions.{next_of, runs, resumed, ran_by, is_killed}
use Rattle.lx_turn.proofs.CallsFit.{calls_fit}

abbrev pub Births : Shared → ℕ → Shared → PtraceEvent UserState → Type 0
Births s child t Plain = Unit {0}
Births s child t Execed = Unit {0}
Births s child t (Forked newborn) = (t.console ≡ s.console) × (child ≤ s.limits.last_pid)

abbrev Fine : Shared → ℕ → Out Shared UserState → Type 0
Fine s child o = Births s child o.shared o.event

ran_fine : (s : Shared) (child p : ℕ) (b : UserState) (o : Outcome) (st : Step) → Fine s child (stepped linux s p b (ran_by b o st))
ran_fine s child p b o step.Ran = tt
ran_fine s child p b o step.Call = tt
ran_fine s child p b o (step.Fault kind address) = tt

resumed_fine : (s : Shared) (child p : ℕ) (b : UserState) (at : Option Interrupted) → Fine s child (stepped linux s p b (resumed b at))
resumed_fine s child p b (Some at) = tt
resumed_fine s child p b None = ran_fine s child p b (instruction b.hart b.memory) (instruction b.hart b.memory).step

runs_fine : (s : Shared) (child p : ℕ) (b : UserState) (signal : Option Signal) → Fine s child (stepped linux s p b (runs s p b signal))
runs_fine s child p b (Some signal) = tt
runs_fine s child p b None = resumed_fine s child p b b.interrupted

answered_fine : (s : Shared) (child p : ℕ) (b : UserState) (call : Call) (a : Answer Shared UserState) → Fits child s call a → Fine s child (answered linux s child p b call a)
answered_fine s child p b call (Refused x) h = tt
answered_fine s child p b call (Returns t c x) h = tt
answered_fine s child p b call (Jumps t c) h = tt
answered_fine s child p b call (Execs t c) h = tt
answered_fine s child p b call (Bears t c newborn) h = (h.console, h.left)
answered_fine s child p b call Blocks h = tt
answered_fine s child p b call (Ends w) h = tt

halts_fine : (continued : Bool) (s : Shared) (child p : ℕ) (b : UserState) (signal : Signal) → Fine s child (halts continued linux s p b signal)
halts_fine true s child p b signal = tt
halts_fine false s child p b signal = tt

wakes_fine : (continued : Bool) (s : Shared) (child p : ℕ) (b : UserState) (signal : Signal) → Fine s child (wakes continued linux s p b signal)
wakes_fine true s child p b signal = tt
wakes_fine false s child p b signal = tt

took_fine : (s : Shared) (child p : ℕ) (b : UserState) (signal : Signal) (cause : Cause) (t : Took Shared UserState) → Fine s child (took linux s p b signal cause t)
took_fine s child p b signal cause (Passes t c) = tt
took_fine s child p b signal cause Stops = halts_fine (is_continued_at (maps.get s.entries p)) s child p b signal
took_fine s child p b signal cause (Kills w) = tt

lives_fine : (c : Choice) (s : Shared) (child p : ℕ) (b : UserState) (stage : Stage) → Fine s child (lives linux c s child p b stage)
lives_fine c s child p b Born = tt
lives_fine c s child p b Run = runs_fine s child p b (next_of (maps.get s.entries p))
lives_fine c s child p b (Faulting signal cause) = tt
lives_fine c s child p b (Entered joined) = tt
lives_fine c s child p b (Doing call) = answered_fine s child p b call (does s child p call b) (calls_fit s child p call b)
lives_fine c s child p b (Replaced call x) = tt
lives_fine c s child p b (Acted call x replaced) = tt
lives_fine c s child p b Finished = tt
lives_fine c s child p b (Taken signal cause) = took_fine s child p b signal cause (takes s p b signal cause)
lives_fine c s child p b Dropped = tt
lives_fine c s child p b (Stopped signal) = wakes_fine (is_continued_at (maps.get s.entries p)) s child p b signal
lives_fine c s child p b Released = tt
lives_fine c s child p b Woken = tt

killed_fine : (killed : Bool) (c : Choice) (s : Shared) (child p : ℕ) (b : UserState) (stage : Stage) → Fine s child (killed_or killed linux c s child p b stage)
killed_fine true c s child p b stage = tt
killed_fine false c s child p b stage = lives_fine c s child p b stage

pub turn_fine : (c : Choice) (s : Shared) (child p : ℕ) (task : Task UserState) → Fine s child (turn linux c s child p task)
turn_fine c s child p (Alive b stage) = killed_fine (is_killed (maps.get s.entries p)) c s child p b stage
turn_fine c s child p (Dying w) = tt
turn_fine c s child p Gone = tt

-- of what the code did beside

pub left_by : (s : Shared) (child : ℕ) (t : Shared) (done : PtraceEvent (Box UserState)) → Births s child t (unboxed done) → IsLeft s.limits.last_pid done child
left_by s child t Plain h = tt
left_by s child t Execed h = tt
left_by s child t (Forked newborn) h = h.1

pub console_by : (s : Shared) (child : ℕ) (t : Shared) (e : PtraceEvent UserState) → Births s child t e → IsBirth e → t.console ≡ s.console
console_by s child t Plain h birth = absurd birth
console_by s child t Execed h birth = absurd birth
console_by s child t (Forked newborn) h birth = h.0
