-- No turn of another lets a stopped process go on, but one that tells it.
use Rattle.std.proofs.Common.{◌≡◌, ℕ, Bool, true, false, cond, Option, Some, None, is_some, refl, ap, subst, ◌∙◌}
use Rattle.std.specs.Prelude.{◌||◌, not}
use Rattle.std.specs.FinMap as maps
use Rattle.std.specs.declared.result.Result.TheVariants.{Ok, Err}
use Rattle.rv_hart.specs.declared.outcome.Step.{Step}
use Rattle.rv_hart.specs.declared.outcome.Step.TheVariants as step
use Rattle.rv_hart.specs.Steps.{Outcome, stepped as instruction}
use Rattle.lx_abi.specs.Errnos.{enosys}
use Rattle.lx_abi.specs.declared.log.Call.{Call}
use Rattle.lx_abi.specs.declared.log.Cause.{Cause}
use Rattle.lx_abi.specs.declared.log.Cause.TheVariants.{Sent}
use Rattle.lx_abi.specs.declared.log.Item.{Item}
use Rattle.lx_abi.specs.declared.signal.Signal.{Signal}
use Rattle.lx_abi.specs.declared.script.Choice.{Choice}
use Rattle.lx_abi.specs.Signals.{is_stop}
use Rattle.lx_model.specs.Machine.{Answer, Refused, Returns, Jumps, Execs, Bears, Blocks, Ends, Took, Passes, Kills}
use Rattle.lx_model.specs.declared.event.PtraceEvent.{PtraceEvent}
use Rattle.lx_model.specs.declared.event.PtraceEvent.TheVariants.{Plain, Execed, Forked}
use Rattle.lx_model.specs.Turn.{Out, turn, killed_or, lives, stepped, answered, halts, took, wakes}
use Rattle.lx_model.specs.declared.stage.Stage.{Stage}
use Rattle.lx_model.specs.declared.stage.Stage.TheVariants.{Born, Run, Faulting, Entered, Doing, Replaced, Acted, Finished, Taken, Dropped, Stopped, Released, Woken}
use Rattle.lx_model.specs.declared.stage.Task.{Task}
use Rattle.lx_model.specs.declared.stage.Task.TheVariants.{Alive, Dying, Gone}
use Rattle.lx_sig.specs.Calls.{Outcome as SignalOutcome}
use Rattle.lx_sig.specs.Sigaction.{sigaction}
use Rattle.lx_sig.specs.Sigprocmask.{sigprocmask}
use Rattle.lx_sig.specs.Frames.{blocking, frame_fault}
use Rattle.lx_sig.specs.Reactions.{reaction as reaction_to}
use Rattle.lx_sig.specs.declared.reactions.Reaction.{Reaction}
use Rattle.lx_sig.specs.declared.reactions.Reaction.TheVariants as reaction
use Rattle.lx_sig.specs.declared.state.Interrupted.{Interrupted}
use Rattle.lx_proc.specs.declared.state.Entry.{Entry}
use Rattle.lx_proc.specs.declared.state.Shared.{Shared}
use Rattle.lx_proc.specs.declared.state.UserState.{UserState}
use Rattle.lx_proc.specs.State.{changed, with_entries, with_news, with_signals, with_signals_at}
use Rattle.lx_proc.specs.Answers.{Answers, argument, low_argument}
use Rattle.lx_proc.specs.Sending.{receives}
use Rattle.lx_exec.specs.Execve.{renewed}
use Rattle.lx_fcalls.specs.Write.{sigpipe}
use Rattle.lx_fcalls.proofs.FileAnswers.{OfFiles, with_files, files_hold}
use Rattle.lx_pcalls.specs.Clone.{child_entry, child_user, with_child}
use Rattle.lx_pcalls.specs.Ends.{dies}
use Rattle.lx_pcalls.specs.Interruption.{is_interrupted, interruptible, blocks_or_returns}
use Rattle.lx_pcalls.specs.Kill.{sends}
use Rattle.lx_pcalls.specs.Stops.{is_continued_at, settles}
use Rattle.lx_pcalls.specs.Taking.{takes, takes_at, reacts, in_handler, segv_word}
use Rattle.lx_pcalls.specs.Signals.{leaves}
use Rattle.lx_pcalls.specs.Wait4.{told_child, first_child}
use Rattle.lx_turn.specs.Calls.{does, called}
use Rattle.lx_turn.specs.Linux.{linux}
use Rattle.lx_turn.specs.Reactions.{next_of, runs, resumed, ran_by, is_killed}
use Rattle.lx_turn.specs.Turned.{Turned, turned}
use Rattle.lx_turn.proofs.CallsFit.{reaction_stops}
use Rattle.lx_kernel.specs.Blocking.{IsBlocked, can_turn, rests}
use Rattle.lx_kernel.specs.Waking.{Calms, LeavesStopped, TurnsLeaveStopped, told_by, told_by_call, told_by_signal, told_at, told_in}
use Rattle.lx_kernel.proofs.Blocked.{entry_other}
use Rattle.lx_kernel.proofs.Calming.{same_calm, entry_calm, told_calm, sends_told, joins_calm, stop_told}
use Rattle.lx_pcalls.proofs.ProcessAnswers.{OfProcesses, processes_hold}
use Rattle.lx_kernel.proofs.Ending.{burial_calm, wake_calm}
use Rattle.lx_kernel.proofs.Placed.{other_put}

-- the entries of others are as before
abbrev IsApart : ℕ → Shared → Shared → Type 0
IsApart p s t = (q : ℕ) → (q ≡ p → ⊥) → maps.get t.entries q ≡ maps.get s.entries q

-- with its entry as it was, a stopped process stays blocked
stopped_on : (s t : Shared) (q : ℕ) → maps.get t.entries q ≡ maps.get s.entries q → (task : Task UserState) → rests task ≡ true → IsBlocked s q task → IsBlocked t q task
unfolding can_turn
stopped_on s t q same (Alive b Born) r e = absurd (cc r)
stopped_on s t q same (Alive b Run) r e = absurd (cc r)
stopped_on s t q same (Alive b (Faulting signal cause)) r e = absurd (cc r)
stopped_on s t q same (Alive b (Entered joined)) r e = absurd (cc r)
stopped_on s t q same (Alive b (Doing call)) r e = absurd (cc r)
stopped_on s t q same (Alive b (Replaced call x)) r e = absurd (cc r)
stopped_on s t q same (Alive b (Acted call x replaced)) r e = absurd (cc r)
stopped_on s t q same (Alive b Finished) r e = absurd (cc r)
stopped_on s t q same (Alive b (Taken signal cause)) r e = absurd (cc r)
stopped_on s t q same (Alive b Dropped) r e = absurd (cc r)
stopped_on s t q same (Alive b (Stopped signal)) r e = ap (λ o. not (not (is_continued_at o)) || is_killed o) same ∙ e
stopped_on s t q same (Alive b Released) r e = absurd (cc r)
stopped_on s t q same (Alive b Woken) r e = absurd (cc r)
stopped_on s t q same (Dying w) r e = absurd (cc r)
stopped_on s t q same Gone r e = refl

-- The turn of a stopped process that is blocked changes nothing.

off : (continued killed : Bool) → (not (not continued) || killed) ≡ false → (killed ≡ false) × (continued ≡ false)
off true killed e = absurd (cc e)
off false true e = absurd (cc e)
off false false e = (refl, refl)

pub still_turn : (c : Choice) (s : Shared) (child p : ℕ) (task : Task UserState) → rests task ≡ true → IsBlocked s p task
    → turned (turn linux c s child p task) ≡ record { shared = s; task = task; item = None; event = Plain }
unfolding can_turn
still_turn c s child p (Alive b Born) r e = absurd (cc r)
still_turn c s child p (Alive b Run) r e = absurd (cc r)
still_turn c s child p (Alive b (Faulting signal cause)) r e = absurd (cc r)
still_turn c s child p (Alive b (Entered joined)) r e = absurd (cc r)
still_turn c s child p (Alive b (Doing call)) r e = absurd (cc r)
still_turn c s child p (Alive b (Replaced call x)) r e = absurd (cc r)
still_turn c s child p (Alive b (Acted call x replaced)) r e = absurd (cc r)
still_turn c s child p (Alive b Finished) r e = absurd (cc r)
still_turn c s child p (Alive b (Taken signal cause)) r e = absurd (cc r)
still_turn c s child p (Alive b Dropped) r e = absurd (cc r)
still_turn c s child p (Alive b (Stopped signal)) r e =
    let o = maps.get s.entries p in
    let h = off (is_continued_at o) (is_killed o) e in
    ap (λ k. turned (killed_or k linux c s child p b (Stopped signal))) h.0 ∙ ap (λ x. turned (wakes x linux s p b signal)) h.1
still_turn c s child p (Alive b Released) r e = absurd (cc r)
still_turn c s child p (Alive b Woken) r e = absurd (cc r)
still_turn c s child p (Dying w) r e = absurd (cc r)
still_turn c s child p Gone r e = refl

-- What a turn leaves.

module _ (s : Shared) (child p told : ℕ) where
  abbrev Leaves : Shared → PtraceEvent UserState → Type 0
  Leaves t event = LeavesStopped s t child p told event

  calm_leaves : (t : Shared) (event : PtraceEvent UserState) → Calms s t child p told event → Leaves t event
  calm_leaves t event calm = λ q up ne still unborn task r e. calm.blocked q up ne still unborn task e

  apart_leaves : (t : Shared) (event : PtraceEvent UserState) → IsApart p s t → Leaves t event
  apart_leaves t event apart = λ q up ne still unborn task r e. stopped_on s t q (apart q ne) task r e

  -- an end
  dies_leaves : (w : ℕ) → Leaves (dies s p w) Plain
  dies_leaves w = apart_leaves (dies s p w) Plain (λ q ne.
      let silent = changed s.entries p (λ e. with_news e None) in
      entry_other silent p q _ (maps.get silent p) ne ∙ entry_other s.entries p q _ (maps.get s.entries p) ne)

  -- a birth
  bears_leaves : (e : Entry) (newborn : UserState) → Leaves (with_child s child p e) (Forked newborn)
  bears_leaves e newborn = λ q up ne still unborn task r h.
      stopped_on s (with_child s child p e) q (other_put s.entries child q (unborn tt) e) task r h

  -- Answers

  abbrev AnswerLeaves : Answers → Type 0
  AnswerLeaves (Refused e) = Unit {0}
  AnswerLeaves (Returns t b x) = Leaves t Plain
  AnswerLeaves (Jumps t b) = Leaves t Plain
  AnswerLeaves (Execs t b) = Leaves t Execed
  AnswerLeaves (Bears t b newborn) = Leaves t (Forked newborn)
  AnswerLeaves Blocks = Unit {0}
  AnswerLeaves (Ends w) = Unit {0}

  blocked_leaves : (b : UserState) (interrupted : Bool) → AnswerLeaves (blocks_or_returns s b interrupted)
  blocked_leaves b true = calm_leaves s Plain (same_calm s child p told Plain)
  blocked_leaves b false = tt

  interrupted_leaves : (b : UserState) (a : Answers) → AnswerLeaves a → AnswerLeaves (interruptible s p b a)
  interrupted_leaves b (Refused e) h = h
  interrupted_leaves b (Returns t c x) h = h
  interrupted_leaves b (Jumps t c) h = h
  interrupted_leaves b (Execs t c) h = h
  interrupted_leaves b (Bears t c newborn) h = h
  interrupted_leaves b Blocks h = blocked_leaves b (is_interrupted (maps.get s.entries p))
  interrupted_leaves b (Ends w) h = h

-- Calls

module _ (s : Shared) (child p : ℕ) (call : Call) (b : UserState) where
  abbrev told : ℕ
  told = told_by_call p call

  abbrev CallLeaves : Answers → Type 0
  CallLeaves a = AnswerLeaves s child p told a

  same : (event : PtraceEvent UserState) → LeavesStopped s s child p told event
  same event = calm_leaves s child p told s event (same_calm s child p told event)

  signals_leave : (o : SignalOutcome) → CallLeaves (leaves s p b o)
  signals_leave (Err e) = tt
  signals_leave (Ok c) = calm_leaves s child p told _ Plain (entry_calm s child p told _ Plain)

  tells : (n : ℕ) → first_child s.entries p (low_argument call 0) (Some (argument call 2)) ≡ Some n → LeavesStopped s (told_child s n) child p told Plain
  tells n found = calm_leaves s child p told (told_child s n) Plain (told_calm s child p told (low_argument call 0) (argument call 2) n Plain found)

  process_leaves : OfProcesses s child p call b CallLeaves
  process_leaves = record {
    refuses = λ e listed. tt;
    waits = λ k. tt;
    returns = λ x. same Plain;
    loses = λ a n heap x. same Plain;
    gains = λ m heap x fits. same Plain;
    acts = λ own there k. signals_leave (sigaction own.signals b.memory call);
    masks = λ own there k. signals_leave (sigprocmask own.signals b.memory call);
    restores = λ own there. calm_leaves s child p told _ Plain (entry_calm s child p told _ Plain);
    sends = λ a k is. calm_leaves s child p told (sends s p a.pid a.signal) Plain (sends_told s child p call b a k is);
    tells = λ n found k. tells n found;
    writes = λ n at bytes found k. tells n found;
    bears = λ own there k room. bears_leaves s child p told (child_entry own p) (child_user b (argument call 1));
    execs = λ content argv env k whole. apart_leaves s child p told (renewed s p) Execed (λ q ne. entry_other s.entries p q _ (maps.get s.entries p) ne);
    ends = λ k. tt;
  }

  own_leaves : (f : Entry → Entry) → LeavesStopped s (with_entries s (changed s.entries p f)) child p told Plain
  own_leaves f = apart_leaves s child p told (with_entries s (changed s.entries p f)) Plain (λ q ne. entry_other s.entries p q f (maps.get s.entries p) ne)

  file_leaves : OfFiles s p call b CallLeaves
  file_leaves = record {
    refuses = λ e listed. tt;
    waits = λ k. tt;
    returns = λ tree fds input console x. apart_leaves s child p told (with_files s tree fds input console) Plain (λ q ne. refl);
    writes = λ tree fds input console at bytes x. apart_leaves s child p told (with_files s tree fds input console) Plain (λ q ne. refl);
    goes = λ path. own_leaves (λ e. record e { directory = path });
    breaks = own_leaves (λ e. receives e sigpipe (Sent p));
  }

  does_leaves : CallLeaves (does s child p call b)
  unfolding does
  does_leaves = interrupted_leaves s child p told b (called s child p call b)
      (files_hold s p call b CallLeaves file_leaves _ (processes_hold s child p call b CallLeaves process_leaves (Refused enosys) tt))

-- Turns

-- an out of a turn from this stand
abbrev OutLeaves : Shared → ℕ → ℕ → Task UserState → Out Shared UserState → Type 0
OutLeaves s child p task o = LeavesStopped s o.shared child p (told_in s p task) o.event

module _ (s : Shared) (child p told : ℕ) where
  same_leaves : (event : PtraceEvent UserState) → LeavesStopped s s child p told event
  same_leaves event = calm_leaves s child p told s event (same_calm s child p told event)

ran_leaves : (s : Shared) (child p : ℕ) (b : UserState) (o : Outcome) (st : Step) → OutLeaves s child p (Alive b Run) (stepped linux s p b (ran_by b o st))
ran_leaves s child p b o step.Ran = same_leaves s child p p Plain
ran_leaves s child p b o step.Call = same_leaves s child p p Plain
ran_leaves s child p b o (step.Fault kind address) = same_leaves s child p p Plain

resumed_leaves : (s : Shared) (child p : ℕ) (b : UserState) (at : Option Interrupted) → OutLeaves s child p (Alive b Run) (stepped linux s p b (resumed b at))
resumed_leaves s child p b (Some at) = same_leaves s child p p Plain
resumed_leaves s child p b None = ran_leaves s child p b (instruction b.hart b.memory) (instruction b.hart b.memory).step

runs_leaves : (s : Shared) (child p : ℕ) (b : UserState) (signal : Option Signal) → OutLeaves s child p (Alive b Run) (stepped linux s p b (runs s p b signal))
runs_leaves s child p b (Some signal) = calm_leaves s child p p _ Plain (entry_calm s child p p _ Plain)
runs_leaves s child p b None = resumed_leaves s child p b b.interrupted

answered_leaves : (s : Shared) (child p : ℕ) (b : UserState) (call : Call) (a : Answer Shared UserState) → AnswerLeaves s child p (told_by_call p call) a → OutLeaves s child p (Alive b (Doing call)) (answered linux s child p b call a)
answered_leaves s child p b call (Refused x) h = same_leaves s child p (told_by_call p call) Plain
answered_leaves s child p b call (Returns t c x) h = h
answered_leaves s child p b call (Jumps t c) h = h
answered_leaves s child p b call (Execs t c) h = h
answered_leaves s child p b call (Bears t c born) h = h
answered_leaves s child p b call Blocks h = same_leaves s child p (told_by_call p call) Plain
answered_leaves s child p b call (Ends w) h = dies_leaves s child p (told_by_call p call) w

module _ (s : Shared) (child p : ℕ) (b : UserState) (signal : Signal) (cause : Cause) where
  abbrev parent : ℕ
  parent = told_by_signal s p signal.number

  abbrev TookLeaves : Took Shared UserState → Type 0
  TookLeaves t = OutLeaves s child p (Alive b (Taken signal cause)) (took linux s p b signal cause t)

  took_either : (test : Bool) (x y : Took Shared UserState) → TookLeaves x → TookLeaves y → TookLeaves (cond test x y)
  took_either true x y h g = h
  took_either false x y h g = g

  halts_leaves : (continued : Bool) → is_stop signal.number ≡ true → OutLeaves s child p (Alive b (Taken signal cause)) (halts continued linux s p b signal)
  halts_leaves true h = calm_leaves s child p parent _ Plain (entry_calm s child p parent _ Plain)
  halts_leaves false h = calm_leaves s child p parent _ Plain (stop_told s child p b signal cause h)

  -- its own signals are changed, and its stop is settled
  passes_leaves : (t : Shared) (c : UserState) → IsApart p s t → TookLeaves (Passes t c)
  passes_leaves t c apart = apart_leaves s child p parent (settles t p) Plain (λ q ne. entry_other t.entries p q _ (maps.get t.entries p) ne ∙ apart q ne)

  reacts_leaves : (e : Entry) (r : Reaction) → (r ≡ reaction.Stops → is_stop signal.number ≡ true) → TookLeaves (reacts s p e b signal r)
  reacts_leaves e reaction.Passes h = passes_leaves s b (λ q ne. refl)
  reacts_leaves e reaction.Stops h = halts_leaves (is_continued_at (maps.get s.entries p)) (h refl)
  reacts_leaves e reaction.Ends h = dies_leaves s child p parent signal.number
  reacts_leaves e (reaction.Handles a) h =
      let signals = blocking e.signals signal a in
      let t : Shared = with_signals_at s p signals in
      took_either (is_some (frame_fault b.memory b.hart)) (Kills segv_word) (Passes t (in_handler e.signals b signal a))
      (dies_leaves s child p parent segv_word)
      (passes_leaves t (in_handler e.signals b signal a) (λ q ne. entry_other s.entries p q (λ e. with_signals e signals) (maps.get s.entries p) ne))

  takes_at_leaves : (o : Option Entry) → TookLeaves (takes_at o s p b signal cause)
  takes_at_leaves None = passes_leaves s b (λ q ne. refl)
  takes_at_leaves (Some e) = reacts_leaves e (reaction_to e.signals signal cause) (reaction_stops e signal cause)

  takes_leaves : TookLeaves (takes s p b signal cause)
  unfolding takes
  takes_leaves = takes_at_leaves (maps.get s.entries p)

wakes_leaves : (s : Shared) (child p : ℕ) (b : UserState) (signal : Signal) (continued : Bool) → OutLeaves s child p (Alive b (Stopped signal)) (wakes continued linux s p b signal)
wakes_leaves s child p b signal true = calm_leaves s child p (told_by p (maps.get s.entries p)) _ Plain (wake_calm s child p)
wakes_leaves s child p b signal false = same_leaves s child p (told_by p (maps.get s.entries p)) Plain

lives_leaves : (c : Choice) (s : Shared) (child p : ℕ) (b : UserState) (stage : Stage) → OutLeaves s child p (Alive b stage) (lives linux c s child p b stage)
lives_leaves c s child p b Born = same_leaves s child p p Plain
lives_leaves c s child p b Run = runs_leaves s child p b (next_of (maps.get s.entries p))
lives_leaves c s child p b (Faulting signal cause) = same_leaves s child p p Plain
lives_leaves c s child p b (Entered joined) = calm_leaves s child p p _ Plain (joins_calm s child p joined c.signal)
lives_leaves c s child p b (Doing call) = answered_leaves s child p b call (does s child p call b) (does_leaves s child p call b)
lives_leaves c s child p b (Replaced call x) = same_leaves s child p p Plain
lives_leaves c s child p b (Acted call x replaced) = same_leaves s child p p Plain
lives_leaves c s child p b Finished = same_leaves s child p p Plain
lives_leaves c s child p b (Taken signal cause) = takes_leaves s child p b signal cause
lives_leaves c s child p b Dropped = calm_leaves s child p p _ Plain (entry_calm s child p p _ Plain)
lives_leaves c s child p b (Stopped signal) = wakes_leaves s child p b signal (is_continued_at (maps.get s.entries p))
lives_leaves c s child p b Released = calm_leaves s child p p _ Plain (entry_calm s child p p _ Plain)
lives_leaves c s child p b Woken = same_leaves s child p p Plain

killed_leaves : (killed : Bool) (c : Choice) (s : Shared) (child p : ℕ) (b : UserState) (stage : Stage) → OutLeaves s child p (Alive b stage) (killed_or killed linux c s child p b stage)
killed_leaves true c s child p b stage = dies_leaves s child p (told_at s p stage) 9
killed_leaves false c s child p b stage = lives_leaves c s child p b stage

pub turn_leaves : TurnsLeaveStopped
turn_leaves c s child p (Alive b stage) = killed_leaves (is_killed (maps.get s.entries p)) c s child p b stage
turn_leaves c s child p (Dying w) = calm_leaves s child p (told_by p (maps.get s.entries p)) _ Plain (burial_calm s child p w)
turn_leaves c s child p Gone = same_leaves s child p p Plain

pub taken_leaves : (c : Choice) (s s' : Shared) (child p : ℕ) (task task' : Task UserState) (item : Option Item) (event : PtraceEvent UserState)
    → turned (turn linux c s child p task) ≡ record { shared = s'; task = task'; item = item; event = event } → LeavesStopped s s' child p (told_in s p task) event
taken_leaves c s s' child p task task' item event is = subst (λ (x : Turned). LeavesStopped s x.shared child p (told_in s p task) x.event) is (turn_leaves c s child p task)
