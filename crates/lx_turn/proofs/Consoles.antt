-- A turn that logs leaves the console.
use Rattle.std.proofs.Common.{◌≡◌, ℕ, Bool, true, false, Option, Some, None, Result, Ok, Err, Break, OnErr, refl, ap, sym, ◌∙◌}
use Rattle.std.specs.FinMap as maps
use Rattle.rv_hart.specs.declared.outcome.Step.{Step}
use Rattle.rv_hart.specs.declared.outcome.Step.TheVariants as step
use Rattle.rv_hart.specs.Steps.{Outcome, stepped as instruction}
use Rattle.lx_abi.specs.declared.log.Call.{Call}
use Rattle.lx_abi.specs.declared.log.Cause.{Cause}
use Rattle.lx_abi.specs.declared.log.Item.{Item}
use Rattle.lx_abi.specs.declared.log.Item.TheVariants as item
use Rattle.lx_abi.specs.declared.signal.Signal.{Signal}
use Rattle.lx_abi.specs.declared.script.Choice.{Choice}
use Rattle.lx_model.specs.Machine.{Answer, Refused, Returns, Jumps, Execs, Bears, Blocks, Ends, Took, Passes, Stops, Kills}
use Rattle.lx_model.specs.Turn.{Out, turn, killed_or, lives, stepped, answered, halts, took, wakes, stage_mode}
use Rattle.lx_model.specs.Finite.{item_of}
use Rattle.lx_model.specs.declared.stage.Stage.{Stage}
use Rattle.lx_model.specs.declared.stage.Stage.TheVariants.{Born, Run, Faulting, Entered, Doing, Replaced, Acted, Finished, Taken, Dropped, Stopped, Released, Woken}
use Rattle.lx_model.specs.declared.stage.Task.{Task}
use Rattle.lx_model.specs.declared.stage.Task.TheVariants.{Alive, Dying, Gone}
use Rattle.lx_proc.specs.declared.state.Shared.{Shared}
use Rattle.lx_proc.specs.declared.state.UserState.{UserState}
use Rattle.lx_sig.specs.declared.state.Interrupted.{Interrupted}
use Rattle.lx_turn.specs.Calls.{does}
use Rattle.lx_turn.specs.Turned.{Turned, turned, turned_by}
use Rattle.lx_pcalls.specs.Stops.{is_continued_at, stopped}
use Rattle.lx_pcalls.specs.Taking.{takes}
use Rattle.lx_turn.specs.Linux.{linux}
use Rattle.lx_turn.specs.Reactions.{next_of, runs, resumed, ran_by, is_killed}

pub on_err : {T E : Type 0} (P : Type 0) (r : Result T E) → P → OnErr r P
on_err P (Ok x) h = tt
on_err P (Err e) h = h

-- an out that logs has the console of what was shared
abbrev Keeps : Shared → Out Shared UserState → Type 0
Keeps s o = (i : Item) → item_of o ≡ Some i → o.shared.console ≡ s.console

ran_keeps : (s : Shared) (p : ℕ) (b : UserState) (o : Outcome) (st : Step) → Keeps s (stepped linux s p b (ran_by b o st))
ran_keeps s p b o step.Ran = λ i e. absurd (cc e)
ran_keeps s p b o step.Call = λ i e. refl
ran_keeps s p b o (step.Fault kind address) = λ i e. absurd (cc e)

resumed_keeps : (s : Shared) (p : ℕ) (b : UserState) (at : Option Interrupted) → Keeps s (stepped linux s p b (resumed b at))
resumed_keeps s p b (Some at) = λ i e. absurd (cc e)
resumed_keeps s p b None = ran_keeps s p b (instruction b.hart b.memory) (instruction b.hart b.memory).step

runs_keep : (s : Shared) (p : ℕ) (b : UserState) (signal : Option Signal) → Keeps s (stepped linux s p b (runs s p b signal))
runs_keep s p b (Some signal) = λ i e. refl
runs_keep s p b None = resumed_keeps s p b b.interrupted

answered_keeps : (s : Shared) (child p : ℕ) (b : UserState) (call : Call) (a : Answer Shared UserState) → Keeps s (answered linux s child p b call a)
answered_keeps s child p b call (Refused x) = λ i e. absurd (cc e)
answered_keeps s child p b call (Returns t c x) = λ i e. absurd (cc e)
answered_keeps s child p b call (Jumps t c) = λ i e. absurd (cc e)
answered_keeps s child p b call (Execs t c) = λ i e. absurd (cc e)
answered_keeps s child p b call (Bears t c born) = λ i e. absurd (cc e)
answered_keeps s child p b call Blocks = λ i e. absurd (cc e)
answered_keeps s child p b call (Ends w) = λ i e. refl

stop_keeps : (s : Shared) (p : ℕ) (signal : Signal) → (stopped s p signal).console ≡ s.console
unfolding stopped
stop_keeps s p signal = refl

halts_keep : (continued : Bool) (s : Shared) (p : ℕ) (b : UserState) (signal : Signal) → Keeps s (halts continued linux s p b signal)
halts_keep true s p b signal = λ i e. absurd (cc e)
halts_keep false s p b signal = λ i e. stop_keeps s p signal

wakes_keep : (continued : Bool) (s : Shared) (p : ℕ) (b : UserState) (signal : Signal) → Keeps s (wakes continued linux s p b signal)
wakes_keep true s p b signal = λ i e. absurd (cc e)
wakes_keep false s p b signal = λ i e. absurd (cc e)

took_keeps : (s : Shared) (p : ℕ) (b : UserState) (signal : Signal) (cause : Cause) (t : Took Shared UserState) → Keeps s (took linux s p b signal cause t)
took_keeps s p b signal cause (Passes t c) = λ i e. absurd (cc e)
took_keeps s p b signal cause Stops = halts_keep (is_continued_at (maps.get s.entries p)) s p b signal
took_keeps s p b signal cause (Kills w) = λ i e. refl

lives_keeps : (c : Choice) (s : Shared) (child p : ℕ) (b : UserState) (stage : Stage) → Keeps s (lives linux c s child p b stage)
lives_keeps c s child p b Born = λ i e. absurd (cc e)
lives_keeps c s child p b Run = runs_keep s p b (next_of (maps.get s.entries p))
lives_keeps c s child p b (Faulting signal cause) = λ i e. refl
lives_keeps c s child p b (Entered joined) = λ i e. absurd (cc e)
lives_keeps c s child p b (Doing call) = answered_keeps s child p b call (does s child p call b)
lives_keeps c s child p b (Replaced call x) = λ i e. absurd (cc e)
lives_keeps c s child p b (Acted call x replaced) = λ i e. refl
lives_keeps c s child p b Finished = λ i e. absurd (cc e)
lives_keeps c s child p b (Taken signal cause) = took_keeps s p b signal cause (takes s p b signal cause)
lives_keeps c s child p b Dropped = λ i e. absurd (cc e)
lives_keeps c s child p b (Stopped signal) = wakes_keep (is_continued_at (maps.get s.entries p)) s p b signal
lives_keeps c s child p b Released = λ i e. absurd (cc e)
lives_keeps c s child p b Woken = λ i e. absurd (cc e)

killed_keeps : (killed : Bool) (c : Choice) (s : Shared) (child p : ℕ) (b : UserState) (stage : Stage) → Keeps s (killed_or killed linux c s child p b stage)
killed_keeps true c s child p b stage = λ i e. refl
killed_keeps false c s child p b stage = lives_keeps c s child p b stage

pub turn_keeps : (c : Choice) (s : Shared) (child p : ℕ) (task : Task UserState) (i : Item) → item_of (turn linux c s child p task) ≡ Some i → (turn linux c s child p task).shared.console ≡ s.console
turn_keeps c s child p (Alive b stage) = killed_keeps (is_killed (maps.get s.entries p)) c s child p b stage
turn_keeps c s child p (Dying w) = λ i e. absurd (cc e)
turn_keeps c s child p Gone = λ i e. absurd (cc e)

-- and one in which a process ends has left it before
pub end_keeps : (c : Choice) (s t : Shared) (child p w : ℕ) (task : Task UserState) (b : UserState) (stage next : Stage) (o : Option Item) → turned (turn linux c s child p task) ≡ turned_by (Break w) t b p stage next o → t.console ≡ s.console
end_keeps c s t child p w task b stage next o e =
    ap (λ (x : Turned). x.shared.console) (sym e)
    ∙ turn_keeps c s child p task (item.Exit p w (stage_mode stage)) (ap (λ (x : Turned). x.item) e)
