-- What holds of all that processes share after a turn: the few changes that a turn makes to it.
use Rattle.std.proofs.Common.{◌≡◌, ℕ, Bool, true, false, cond, Option, Some, None, refl}
use Rattle.std.specs.Prelude.{is_some}
use Rattle.std.specs.FinMap as maps
use Rattle.rv_hart.specs.declared.outcome.Step.{Step}
use Rattle.rv_hart.specs.declared.outcome.Step.TheVariants as step
use Rattle.rv_hart.specs.Steps.{Outcome, stepped as instruction}
use Rattle.lx_abi.specs.Log.{entries, items_of}
use Rattle.lx_abi.specs.declared.log.Call.{Call}
use Rattle.lx_abi.specs.declared.log.Cause.{Cause}
use Rattle.lx_abi.specs.declared.log.Cause.TheVariants.{Kernel as By_kernel}
use Rattle.lx_abi.specs.declared.script.Choice.{Choice}
use Rattle.lx_abi.specs.declared.signal.Signal.{Signal}
use Rattle.lx_model.specs.Machine.{Refused, Returns, Jumps, Execs, Bears, Blocks, Ends, Took, Passes, Stops, Kills}
use Rattle.lx_model.specs.declared.event.PtraceEvent.{PtraceEvent}
use Rattle.lx_model.specs.declared.event.PtraceEvent.TheVariants.{Plain, Execed, Forked}
use Rattle.lx_model.specs.Turn.{Out, turn, killed_or, lives, stepped, answered, halts, took, wakes, joins}
use Rattle.lx_model.specs.Kernel.{Script, Kernel, traces, choice_at, kernel_turn, with_child, after_turn}
use Rattle.lx_model.specs.declared.stage.Stage.{Stage}
use Rattle.lx_model.specs.declared.stage.Stage.TheVariants.{Born, Run, Faulting, Entered, Doing, Replaced, Acted, Finished, Taken, Dropped, Stopped, Released, Woken}
use Rattle.lx_model.specs.declared.stage.Task.{Task}
use Rattle.lx_model.specs.declared.stage.Task.TheVariants as task
use Rattle.lx_sig.specs.Frames.{blocking, frame_fault}
use Rattle.lx_sig.specs.Pending.{settled, with_pending, without_pending}
use Rattle.lx_sig.specs.Reactions.{reaction as reaction_to}
use Rattle.lx_sig.specs.declared.reactions.Reaction.{Reaction}
use Rattle.lx_sig.specs.declared.reactions.Reaction.TheVariants as reaction
use Rattle.lx_sig.specs.declared.state.Interrupted.{Interrupted}
use Rattle.lx_sig.specs.declared.state.Signals.{Signals}
use Rattle.lx_proc.specs.Answers.{Answers}
use Rattle.lx_proc.specs.State.{changed, with_entries, with_signals}
use Rattle.lx_proc.specs.declared.state.Entry.{Entry}
use Rattle.lx_proc.specs.declared.state.Shared.{Shared}
use Rattle.lx_proc.specs.declared.state.UserState.{UserState}
use Rattle.lx_pcalls.specs.Ends.{buried, dies}
use Rattle.lx_pcalls.specs.Stops.{is_continued_at, settles, stopped, woken}
use Rattle.lx_pcalls.specs.Taking.{takes, takes_at, reacts}
use Rattle.lx_turn.specs.Calls.{does}
use Rattle.lx_turn.specs.Linux.{linux}
use Rattle.lx_turn.specs.Reactions.{next_of, runs, resumed, ran_by, is_killed}

-- what a call leaves
abbrev pub LeavesIn : (Shared → Type 0) → Answers → Type 0
LeavesIn P (Refused e) = Unit {0}
LeavesIn P (Returns t c x) = P t
LeavesIn P (Jumps t c) = P t
LeavesIn P (Execs t c) = P t
LeavesIn P (Bears t c newborn) = P t
LeavesIn P Blocks = Unit {0}
LeavesIn P (Ends w) = Unit {0}

-- what is to be shown of a property, that it hold after a turn
pub record OfTurns (s : Shared) (child p : ℕ) (x : Task UserState) (P : Shared → Type 0) : Type 0 where
  pub stays : P s
  -- the process's signals are others
  pub signals : (t : Shared) (f : Entry → Signals) → P t → P (with_entries t (changed t.entries p (λ e. with_signals e (f e))))
  pub calls : (b : UserState) (call : Call) → x ≡ task.Alive b (Doing call) → LeavesIn P (does s child p call b)
  pub stops : (b : UserState) (stage : Stage) (signal : Signal) → x ≡ task.Alive b stage → P (stopped s p signal)
  pub wakes : (b : UserState) (stage : Stage) → x ≡ task.Alive b stage → P (woken s p)
  pub ends : (b : UserState) (stage : Stage) (w : ℕ) → x ≡ task.Alive b stage → P (dies s p w)
  pub leaves : (w : ℕ) → x ≡ task.Dying w → P (buried s p w)

module _ (s : Shared) (child p : ℕ) (x : Task UserState) (P : Shared → Type 0) (of : OfTurns s child p x P) where
  abbrev Goes : Out Shared UserState → Type 0
  Goes o = P o.shared

  ran_goes : (b : UserState) (o : Outcome) (st : Step) → Goes (stepped linux s p b (ran_by b o st))
  ran_goes b o step.Ran = of.stays
  ran_goes b o step.Call = of.stays
  ran_goes b o (step.Fault kind address) = of.stays

  resumed_goes : (b : UserState) (at : Option Interrupted) → Goes (stepped linux s p b (resumed b at))
  resumed_goes b (Some at) = of.stays
  resumed_goes b None = ran_goes b (instruction b.hart b.memory) (instruction b.hart b.memory).step

  runs_goes : (b : UserState) (signal : Option Signal) → Goes (stepped linux s p b (runs s p b signal))
  runs_goes b (Some signal) = of.signals s (λ e. without_pending e.signals signal) of.stays
  runs_goes b None = resumed_goes b b.interrupted

  answered_goes : (b : UserState) (stage : Stage) (call : Call) → x ≡ task.Alive b stage → (a : Answers) → LeavesIn P a → Goes (answered linux s child p b call a)
  answered_goes b stage call is (Refused e) g = of.stays
  answered_goes b stage call is (Returns t c x) g = g
  answered_goes b stage call is (Jumps t c) g = g
  answered_goes b stage call is (Execs t c) g = g
  answered_goes b stage call is (Bears t c newborn) g = g
  answered_goes b stage call is Blocks g = of.stays
  answered_goes b stage call is (Ends w) g = of.ends b stage w is

  settled_goes : (t : Shared) → P t → P (settles t p)
  settled_goes t g = of.signals t (λ e. settled e.signals) g

  halts_goes : (b : UserState) (stage : Stage) (signal : Signal) → x ≡ task.Alive b stage → (continued : Bool) → Goes (halts continued linux s p b signal)
  halts_goes b stage signal is true = settled_goes s of.stays
  halts_goes b stage signal is false = of.stops b stage signal is

  abbrev TookIn : Took Shared UserState → Type 0
  TookIn (Passes t c) = P t
  TookIn Stops = Unit {0}
  TookIn (Kills w) = Unit {0}

  took_either : (test : Bool) (a b : Took Shared UserState) → TookIn a → TookIn b → TookIn (cond test a b)
  took_either true a b h g = h
  took_either false a b h g = g

  reacts_goes : (e : Entry) (b : UserState) (signal : Signal) (r : Reaction) → TookIn (reacts s p e b signal r)
  reacts_goes e b signal reaction.Passes = of.stays
  reacts_goes e b signal reaction.Stops = tt
  reacts_goes e b signal reaction.Ends = tt
  reacts_goes e b signal (reaction.Handles a) =
      took_either (is_some (frame_fault b.memory b.hart)) _ _ tt (of.signals s (λ x. blocking e.signals signal a) of.stays)

  takes_at_goes : (b : UserState) (signal : Signal) (cause : Cause) (o : Option Entry) → TookIn (takes_at o s p b signal cause)
  takes_at_goes b signal cause None = of.stays
  takes_at_goes b signal cause (Some e) = reacts_goes e b signal (reaction_to e.signals signal cause)

  takes_goes : (b : UserState) (signal : Signal) (cause : Cause) → TookIn (takes s p b signal cause)
  unfolding takes
  takes_goes b signal cause = takes_at_goes b signal cause (maps.get s.entries p)

  took_goes : (b : UserState) (stage : Stage) (signal : Signal) (cause : Cause) → x ≡ task.Alive b stage → (t : Took Shared UserState) → TookIn t → Goes (took linux s p b signal cause t)
  took_goes b stage signal cause is (Passes t c) g = settled_goes t g
  took_goes b stage signal cause is Stops g = halts_goes b stage signal is (is_continued_at (maps.get s.entries p))
  took_goes b stage signal cause is (Kills w) g = of.ends b stage w is

  wakes_goes : (b : UserState) (stage : Stage) (signal : Signal) → x ≡ task.Alive b stage → (continued : Bool) → Goes (wakes continued linux s p b signal)
  wakes_goes b stage signal is true = of.wakes b stage is
  wakes_goes b stage signal is false = of.stays

  join_goes : (t : Shared) → P t → (o : Option Signal) → P (joins linux t p o)
  join_goes t g None = g
  join_goes t g (Some signal) = of.signals t (λ e. with_pending e.signals signal By_kernel) g

  lives_goes : (c : Choice) (b : UserState) (stage : Stage) → x ≡ task.Alive b stage → Goes (lives linux c s child p b stage)
  lives_goes c b Born is = of.stays
  lives_goes c b Run is = runs_goes b (next_of (maps.get s.entries p))
  lives_goes c b (Faulting signal cause) is = of.stays
  lives_goes c b (Entered o) is = join_goes (joins linux s p o) (join_goes s of.stays o) c.signal
  lives_goes c b (Doing call) is = answered_goes b (Doing call) call is (does s child p call b) (of.calls b call is)
  lives_goes c b (Replaced call x) is = of.stays
  lives_goes c b (Acted call x replaced) is = of.stays
  lives_goes c b Finished is = of.stays
  lives_goes c b (Taken signal cause) is = took_goes b (Taken signal cause) signal cause is (takes s p b signal cause) (takes_goes b signal cause)
  lives_goes c b Dropped is = settled_goes s of.stays
  lives_goes c b (Stopped signal) is = wakes_goes b (Stopped signal) signal is (is_continued_at (maps.get s.entries p))
  lives_goes c b Released is = settled_goes s of.stays
  lives_goes c b Woken is = of.stays

  killed_goes : (killed : Bool) (c : Choice) (b : UserState) (stage : Stage) → x ≡ task.Alive b stage → Goes (killed_or killed linux c s child p b stage)
  killed_goes true c b stage is = of.ends b stage 9 is
  killed_goes false c b stage is = lives_goes c b stage is

  turn_goes : (c : Choice) (y : Task UserState) → x ≡ y → Goes (turn linux c s child p y)
  turn_goes c (task.Alive b stage) is = killed_goes (is_killed (maps.get s.entries p)) c b stage is
  turn_goes c (task.Dying w) is = of.leaves w is
  turn_goes c task.Gone is = of.stays

  pub turn_holds : (c : Choice) → P (turn linux c s child p x).shared
  turn_holds c = turn_goes c x refl

child_shares : (k : Kernel Shared UserState) (e : PtraceEvent UserState) (P : Shared → Type 0) → P k.shared → P (with_child k e).shared
child_shares k Plain P h = h
child_shares k Execed P h = h
child_shares k (Forked b) P h = h

-- so after a turn of the untraced kernel
pub kernel_holds : (script : Script) (follow : Bool) (k : Kernel Shared UserState) (p : ℕ) (P : Shared → Type 0) → OfTurns k.shared k.child p (k.tasks p) P → P (kernel_turn linux script follow k p).shared
kernel_holds script follow k p P of =
    let c : Choice = choice_at linux script (traces follow p) (λ n. entries p n (items_of k.log)) (k.tasks p) in
    let o : Out Shared UserState = turn linux c k.shared k.child p (k.tasks p) in
    child_shares (after_turn k p o) o.event P (turn_holds k.shared k.child p (k.tasks p) P of c)
