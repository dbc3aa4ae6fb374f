-- Turns that leave each other process blocked that was, but for one that is told.
use Rattle.std.proofs.Common.{◌≡◌, ℕ, Bool, true, false, cond, Option, Some, None, refl, ap, sym, subst, ◌∙◌, arith}
use Rattle.std.specs.Prelude.{◌==◌, ◌||◌, is_some, is_none}
use Rattle.std.specs.Option.{unwrap_or}
use Rattle.std.specs.FinMap as maps
use Rattle.std.specs.declared.result.Result.TheVariants.{Ok, Err}
use Rattle.std.proofs.lemmas.Bool.Decides.{nat_tests}
use Rattle.rv_hart.specs.declared.outcome.Step.{Step}
use Rattle.rv_hart.specs.declared.outcome.Step.TheVariants as step
use Rattle.rv_hart.specs.Steps.{Outcome, stepped as instruction}
use Rattle.lx_abi.specs.Calls.{calls, has_effects}
use Rattle.lx_abi.specs.Effects as effect
use Rattle.lx_abi.specs.Errnos.{enosys}
use Rattle.lx_abi.specs.declared.log.Call.{Call}
use Rattle.lx_abi.specs.declared.log.Cause.{Cause}
use Rattle.lx_abi.specs.declared.signal.Signal.{Signal}
use Rattle.lx_abi.specs.Signals.{is_stop}
use Rattle.lx_abi.specs.declared.script.Choice.{Choice}
use Rattle.lx_model.specs.Machine.{Answer, Refused, Returns, Jumps, Execs, Bears, Blocks, Ends, Took, Kills}
use Rattle.lx_model.specs.declared.event.PtraceEvent.{PtraceEvent}
use Rattle.lx_model.specs.declared.event.PtraceEvent.TheVariants.{Plain, Forked}
use Rattle.lx_model.specs.Turn.{Out, turn, killed_or, lives, stepped, answered, halts, took, wakes, joins}
use Rattle.lx_model.specs.declared.stage.Stage.{Stage}
use Rattle.lx_model.specs.declared.stage.Stage.TheVariants.{Born, Run, Faulting, Entered, Doing, Replaced, Acted, Finished, Taken, Dropped, Stopped, Released, Woken}
use Rattle.lx_model.specs.declared.stage.Task.{Task}
use Rattle.lx_model.specs.declared.stage.Task.TheVariants.{Alive, Dying, Gone}
use Rattle.lx_sig.specs.Calls.{Outcome as SignalOutcome}
use Rattle.lx_sig.specs.Frames.{frame_fault}
use Rattle.lx_sig.specs.Kill.{aim}
use Rattle.lx_sig.specs.declared.kill.Aim.{Aim}
use Rattle.lx_sig.specs.Reactions.{reaction as reaction_to}
use Rattle.lx_sig.specs.Sigaction.{sigaction}
use Rattle.lx_sig.specs.Sigprocmask.{sigprocmask}
use Rattle.lx_sig.specs.declared.reactions.Reaction.{Reaction}
use Rattle.lx_sig.specs.declared.reactions.Reaction.TheVariants as reaction
use Rattle.lx_sig.specs.declared.state.Interrupted.{Interrupted}
use Rattle.lx_sig.specs.declared.state.Signals.{Signals}
use Rattle.lx_open.specs.Opens.{inherited}
use Rattle.lx_open.specs.Releases.{AreEndsKept}
use Rattle.lx_proc.specs.declared.state.Entry.{Entry}
use Rattle.lx_proc.specs.declared.state.Shared.{Shared}
use Rattle.lx_proc.specs.declared.state.UserState.{UserState}
use Rattle.lx_proc.specs.State.{Entries, changed, changed_entry, with_entries, with_news, with_signals}
use Rattle.lx_proc.specs.Families.{is_zombie}
use Rattle.lx_proc.specs.Answers.{Answers, argument, low_argument}
use Rattle.lx_fcalls.specs.Calls.{file_call}
use Rattle.lx_pcalls.specs.Calls.{process_call}
use Rattle.lx_pcalls.specs.Clone.{child_entry, child_user}
use Rattle.lx_pcalls.specs.Ends.{dies}
use Rattle.lx_pcalls.specs.Interruption.{is_interrupted, interruptible, blocks_or_returns}
use Rattle.lx_pcalls.specs.Kill.{sends, sent_to}
use Rattle.lx_pcalls.specs.Signals.{leaves}
use Rattle.lx_pcalls.specs.Stops.{is_continued_at, stopped}
use Rattle.lx_pcalls.specs.Taking.{takes, takes_at, reacts, segv_word}
use Rattle.lx_pcalls.specs.Wait4.{told_child, told_entry, first_child}
use Rattle.lx_turn.specs.Calls.{does, called}
use Rattle.lx_turn.specs.Linux.{linux}
use Rattle.lx_turn.specs.Reactions.{next_of, runs, resumed, ran_by, is_killed}
use Rattle.lx_kernel.specs.Waking.{is_calm_number, IsCalm, Calms, CalmTurnsWakeNobody, aimed_at, told_by, told_by_call, told_by_signal, told_at, told_in}
use Rattle.lx_turn.proofs.CallsFit.{reaction_stops}
use Rattle.lx_kernel.proofs.Awaiting.{awaits_on, signalled_spared, twice_spared, killed_spared, reaped_spared, born_spared}
use Rattle.lx_kernel.proofs.Blocked.{is_quiet, StaysQuiet, both, blocked_on, waits_same, waits_alike, pipe_alike, inherited_alike, entry_other, quiet_same, quiet_left}
use Rattle.lx_pcalls.proofs.ProcessAnswers.{OfProcesses, processes_hold}
use Rattle.lx_kernel.proofs.Ending.{end_calm, burial_calm, stop_calm, wake_calm}
use Rattle.lx_kernel.proofs.Placed.{either, get_put, other_put}

-- what wait4 has told of a process is no signal to it
quiet_silent : (e : Entry) (stopped : Bool) → is_quiet stopped (Some (with_news e None)) ≡ is_quiet stopped (Some e)
quiet_silent e true = refl
quiet_silent e false = refl

silent_at : (m : Entries) (n q : ℕ) (o : Option Entry) → maps.get m n ≡ o → StaysQuiet (maps.get m q) (maps.get (changed_entry m n (λ e. with_news e None) o) q)
silent_at m n q None there stopped h = h
silent_at m n q (Some e) there stopped h =
    let t : Entries = maps.insert m n (with_news e None) in
    either q n (is_quiet stopped (maps.get t q) ≡ true) (q == n) refl
    (λ same. subst (λ x. is_quiet stopped (maps.get t x) ≡ true) (sym same)
    (ap (is_quiet stopped) (get_put m n (with_news e None)) ∙ quiet_silent e stopped ∙ sym (ap (is_quiet stopped) there) ∙ ap (λ x. is_quiet stopped (maps.get m x)) (sym same) ∙ h))
    (λ ne. quiet_same (maps.get m q) (maps.get t q) (other_put m n q ne (with_news e None)) stopped h)

quiet_told : (m : Entries) (n q : ℕ) (o : Option Entry) → StaysQuiet (maps.get m q) (maps.get (told_entry m n o) q)
quiet_told m n q None = λ stopped h. h
quiet_told m n q (Some e) = go (is_zombie e.life)
  where
    go : (b : Bool) → StaysQuiet (maps.get m q) (maps.get (cond b (maps.remove m n) (changed m n (λ e. with_news e None))) q)
    go true = quiet_left m n q
    go false = silent_at m n q (maps.get m n) refl

module _ (s : Shared) (child p told : ℕ) where
  abbrev Calm : Shared → PtraceEvent UserState → Type 0
  Calm t event = Calms s t child p told event

  -- nothing is changed
  pub same_calm : (event : PtraceEvent UserState) → Calm s event
  same_calm event = record { blocked = λ q up ne still unborn task h. h; pipes = λ q fd ne unborn. refl }

  -- the signals of the process's own entry are
  pub entry_calm : (g : Entry → Signals) (event : PtraceEvent UserState) → Calm (with_entries s (changed s.entries p (λ e. with_signals e (g e)))) event
  entry_calm g event = record {
    blocked = λ q up ne still unborn task h.
        let f = λ (e : Entry). with_signals e (g e) in
        let t : Shared = with_entries s (changed s.entries p f) in
        blocked_on s t q (waits_same s t q refl)
        (awaits_on s t q (signalled_spared s.entries p q g))
        (quiet_same (maps.get s.entries q) (maps.get t.entries q) (entry_other s.entries p q f (maps.get s.entries p) ne)) task h;
    pipes = λ q fd ne unborn. refl;
  }

  entries_calm : (g i : Entry → Signals) (event : PtraceEvent UserState)
      → Calm (with_entries s (changed (changed s.entries p (λ e. with_signals e (g e))) p (λ e. with_signals e (i e)))) event
  entries_calm g i event = record {
    blocked = λ q up ne still unborn task h.
        let f = λ (e : Entry). with_signals e (g e) in
        let j = λ (e : Entry). with_signals e (i e) in
        let t : Shared = with_entries s (changed (changed s.entries p f) p j) in
        blocked_on s t q (waits_same s t q refl)
        (awaits_on s t q (twice_spared s.entries p q g i))
        (quiet_same (maps.get s.entries q) (maps.get t.entries q)
        (entry_other (changed s.entries p f) p q j (maps.get (changed s.entries p f) p) ne ∙ entry_other s.entries p q f (maps.get s.entries p) ne)) task h;
    pipes = λ q fd ne unborn. refl;
  }

  -- a signal is sent to the one that is told
  sent_calm : (signal : Signal) (event : PtraceEvent UserState) → Calm (with_entries s (changed s.entries told (λ e. sent_to e e.life p signal))) event
  sent_calm signal event = record {
    blocked = λ q up ne still unborn task h.
        let f = λ (e : Entry). sent_to e e.life p signal in
        let t : Shared = with_entries s (changed s.entries told f) in
        blocked_on s t q (waits_same s t q refl)
        (awaits_on s t q (killed_spared s.entries p told q signal))
        (quiet_same (maps.get s.entries q) (maps.get t.entries q) (entry_other s.entries told q f (maps.get s.entries told) still)) task h;
    pipes = λ q fd ne unborn. refl;
  }

  sends_calm : (signal : Option Signal) (event : PtraceEvent UserState) → Calm (sends s p told signal) event
  sends_calm None event = same_calm event
  sends_calm (Some signal) event = sent_calm signal event

  -- a child that was told of leaves the table, or has no news
  pub told_calm : (wanted options n : ℕ) (event : PtraceEvent UserState) → first_child s.entries p wanted (Some options) ≡ Some n → Calm (told_child s n) event
  told_calm wanted options n event found = record {
    blocked = λ q up ne still unborn task h.
        let t : Shared = told_child s n in
        blocked_on s t q (waits_same s t q refl)
        (awaits_on s t q (reaped_spared s.entries p q wanted options n ne found))
        (quiet_told s.entries n q (maps.get s.entries n)) task h;
    pipes = λ q fd ne unborn. refl;
  }

  -- a child is born under a pid that is free
  born_calm : (e : Entry) (newborn : UserState) → e.parent ≡ p → maps.get s.entries child ≡ None
      → Calm (record s { fds = inherited s.fds p child; entries = maps.insert s.entries child e }) (Forked newborn)
  unfolding inherited
  born_calm e newborn parent free = record {
    blocked = λ q up ne still unborn task h.
        let t : Shared = record s { fds = inherited s.fds p child; entries = maps.insert s.entries child e } in
        let other = unborn tt in
        blocked_on s t q (waits_alike s t q (inherited s.fds p child).slots refl (inherited_alike s.fds p child q other))
        (awaits_on s t q (born_spared s.entries p child q e ne parent free))
        (quiet_same (maps.get s.entries q) (maps.get t.entries q) (other_put s.entries child q other e)) task h;
    pipes = λ q fd ne unborn. pipe_alike s.fds (inherited s.fds p child).slots q fd (inherited_alike s.fds p child q (unborn tt) fd);
  }

  -- Answers

  abbrev pub AnswerCalms : Answers → Type 0
  AnswerCalms (Refused e) = Unit {0}
  AnswerCalms (Returns t b x) = Calm t Plain
  AnswerCalms (Jumps t b) = Calm t Plain
  AnswerCalms (Execs t b) = ⊥
  AnswerCalms (Bears t b newborn) = Calm t (Forked newborn)
  AnswerCalms Blocks = Unit {0}
  AnswerCalms (Ends w) = Unit {0}

  pub leaves_calm : (b : UserState) (o : SignalOutcome) → AnswerCalms (leaves s p b o)
  leaves_calm b (Err e) = tt
  leaves_calm b (Ok c) = entry_calm _ Plain

  blocked_calm : (b : UserState) (interrupted : Bool) → AnswerCalms (blocks_or_returns s b interrupted)
  blocked_calm b true = same_calm Plain
  blocked_calm b false = tt

  interrupted_calm : (b : UserState) (a : Answers) → AnswerCalms a → AnswerCalms (interruptible s p b a)
  interrupted_calm b (Refused e) h = h
  interrupted_calm b (Returns t c x) h = h
  interrupted_calm b (Jumps t c) h = h
  interrupted_calm b (Execs t c) h = h
  interrupted_calm b (Bears t c newborn) h = h
  interrupted_calm b Blocks h = blocked_calm b (is_interrupted (maps.get s.entries p))
  interrupted_calm b (Ends w) h = h

pub or_else : (P : Type 0) (a b : Bool) → (a || b) ≡ true → (a ≡ true → P) → (b ≡ true → P) → P
or_else P true b e left right = left refl
or_else P false b e left right = right e

pub numbered : (a b : ℕ) → (a == b) ≡ true → a ≡ b
numbered a b h = grind (arith, nat_tests)

module _ (s : Shared) (child p : ℕ) (call : Call) (b : UserState) where
  abbrev N : ℕ
  N = call.number

  abbrev told : ℕ
  told = told_by_call p call

  -- a kill is to whom it is sent
  told_is : N ≡ 129 → told ≡ aimed_at p (aim call)
  told_is h = rw h refl

  pub sends_told : (a : Aim) → (N == 129) ≡ true → aim call ≡ Some a → Calms s (sends s p a.pid a.signal) child p told Plain
  sends_told a k is = subst (λ n. Calms s (sends s p a.pid a.signal) child p n Plain) (sym (told_is (numbered N 129 k) ∙ ap (aimed_at p) is)) (sends_calm s child p a.pid a.signal Plain)

  -- by number

  free_at : (n : ℕ) → n ≡ 220 → is_calm_number s child n ≡ true → is_none (maps.get s.entries child) ≡ true
  unfolding has_effects calls
  free_at n h e = subst (λ n. is_calm_number s child n ≡ true) h e

  no_program : (n : ℕ) → n ≡ 221 → is_calm_number s child n ≡ true → ⊥
  unfolding has_effects calls
  no_program n h e = let never = subst (λ n. is_calm_number s child n ≡ true) h e in cc never

  nothing_there : (o : Option Entry) → is_none o ≡ true → o ≡ None
  nothing_there None e = refl
  nothing_there (Some x) e = absurd (cc e)

  abbrev NoFile : Type 0
  NoFile = file_call s p call b ≡ None

  no_file : is_calm_number s child N ≡ true → NoFile
  unfolding has_effects calls file_call
  no_file e =
      or_else NoFile (has_effects N effect.calm) _ e
      (λ e.
      or_else NoFile (N == 124) _ e (λ h. let is = numbered N 124 h in rw is refl) (λ e.
      or_else NoFile (N == 134) _ e (λ h. let is = numbered N 134 h in rw is refl) (λ e.
      or_else NoFile (N == 135) _ e (λ h. let is = numbered N 135 h in rw is refl) (λ e.
      or_else NoFile (N == 139) _ e (λ h. let is = numbered N 139 h in rw is refl) (λ e.
      or_else NoFile (N == 172) _ e (λ h. let is = numbered N 172 h in rw is refl) (λ e.
      or_else NoFile (N == 173) _ e (λ h. let is = numbered N 173 h in rw is refl) (λ e.
      or_else NoFile (N == 178) _ e (λ h. let is = numbered N 178 h in rw is refl) (λ e.
      or_else NoFile (N == 214) _ e (λ h. let is = numbered N 214 h in rw is refl) (λ e.
      or_else NoFile (N == 215) _ e (λ h. let is = numbered N 215 h in rw is refl) (λ e.
      or_else NoFile (N == 222) _ e (λ h. let is = numbered N 222 h in rw is refl) (λ e.
      or_else NoFile (N == 260) _ e (λ h. let is = numbered N 260 h in rw is refl) (λ e.
      absurd (cc e)))))))))))))
      (λ e. or_else NoFile (N == 129) _ e (λ h. let is = numbered N 129 h in rw is refl)
      (λ e. let is = numbered N 220 (both (N == 220) (is_none (maps.get s.entries child)) e).0 in rw is refl))

  abbrev CalmIf : Answers → Type 0
  CalmIf a = is_calm_number s child N ≡ true → AnswerCalms s child p told a

  process_calm : OfProcesses s child p call b CalmIf
  process_calm = record {
    refuses = λ n listed e. tt;
    waits = λ k e. tt;
    returns = λ x e. same_calm s child p told Plain;
    loses = λ a n heap x e. same_calm s child p told Plain;
    gains = λ m heap x fits e. same_calm s child p told Plain;
    acts = λ own there k e. leaves_calm s child p told b (sigaction own.signals b.memory call);
    masks = λ own there k e. leaves_calm s child p told b (sigprocmask own.signals b.memory call);
    restores = λ own there e. entry_calm s child p told _ Plain;
    sends = λ a k is e. sends_told a k is;
    tells = λ n found k e. told_calm s child p told (low_argument call 0) (argument call 2) n Plain found;
    writes = λ n at bytes found k e. told_calm s child p told (low_argument call 0) (argument call 2) n Plain found;
    bears = λ own there k room e. born_calm s child p told (child_entry own p) (child_user b (argument call 1)) refl (nothing_there (maps.get s.entries child) (free_at N (numbered N 220 k) e));
    execs = λ content argv env k whole e. absurd (no_program N (numbered N 221 k) e);
    ends = λ k e. tt;
  }

  called_calm : CalmIf (called s child p call b)
  called_calm e =
      subst (λ o. AnswerCalms s child p told (unwrap_or o (unwrap_or (process_call s child p call b) (Refused enosys)))) (sym (no_file e))
      (processes_hold s child p call b CalmIf process_calm (Refused enosys) (λ e. tt) e)

  pub does_calm : is_calm_number s child call.number ≡ true → AnswerCalms s child p told (does s child p call b)
  unfolding does
  does_calm e = interrupted_calm s child p told b (called s child p call b) (called_calm e)

-- Turns

-- an out of a turn from this stand
abbrev OutCalms : Shared → ℕ → ℕ → Task UserState → Out Shared UserState → Type 0
OutCalms s child p task o = IsCalm s child task o.shared o.task → Calms s o.shared child p (told_in s p task) o.event

-- an end tells nobody
pub ends_calm : (s : Shared) (child p who w : ℕ) → AreEndsKept s.fds (dies s p w).fds → Calms s (dies s p w) child p who Plain
ends_calm s child p who w kept =
    let end = end_calm s child p w kept in
    record { blocked = λ q up ne still unborn. end.blocked q up ne ne unborn; pipes = end.pipes }

ran_calm : (s : Shared) (child p : ℕ) (b : UserState) (o : Outcome) (st : Step) → OutCalms s child p (Alive b Run) (stepped linux s p b (ran_by b o st))
ran_calm s child p b o step.Ran = λ e. same_calm s child p p Plain
ran_calm s child p b o step.Call = λ e. same_calm s child p p Plain
ran_calm s child p b o (step.Fault kind address) = λ e. same_calm s child p p Plain

resumed_calm : (s : Shared) (child p : ℕ) (b : UserState) (at : Option Interrupted) → OutCalms s child p (Alive b Run) (stepped linux s p b (resumed b at))
resumed_calm s child p b (Some at) = λ e. same_calm s child p p Plain
resumed_calm s child p b None = ran_calm s child p b (instruction b.hart b.memory) (instruction b.hart b.memory).step

runs_calm : (s : Shared) (child p : ℕ) (b : UserState) (signal : Option Signal) → OutCalms s child p (Alive b Run) (stepped linux s p b (runs s p b signal))
runs_calm s child p b (Some signal) = λ e. entry_calm s child p p _ Plain
runs_calm s child p b None = resumed_calm s child p b b.interrupted

pub joins_calm : (s : Shared) (child p : ℕ) (first second : Option Signal) → Calms s (joins linux (joins linux s p first) p second) child p p Plain
joins_calm s child p None None = same_calm s child p p Plain
joins_calm s child p (Some signal) None = entry_calm s child p p _ Plain
joins_calm s child p None (Some signal) = entry_calm s child p p _ Plain
joins_calm s child p (Some signal) (Some other) = entries_calm s child p p _ _ Plain

answered_calm : (s : Shared) (child p : ℕ) (b : UserState) (call : Call) (a : Answer Shared UserState) → (is_calm_number s child call.number ≡ true → AnswerCalms s child p (told_by_call p call) a) → OutCalms s child p (Alive b (Doing call)) (answered linux s child p b call a)
answered_calm s child p b call (Refused x) h = λ e. same_calm s child p (told_by_call p call) Plain
answered_calm s child p b call (Returns t c x) h = λ e. h e
answered_calm s child p b call (Jumps t c) h = λ e. h e
answered_calm s child p b call (Execs t c) h = λ e. absurd (h e)
answered_calm s child p b call (Bears t c born) h = λ e. h e
answered_calm s child p b call Blocks h = λ e. same_calm s child p (told_by_call p call) Plain
answered_calm s child p b call (Ends w) h = λ e. ends_calm s child p (told_by_call p call) w e

-- A signal that is taken.

module _ (s : Shared) (child p : ℕ) (b : UserState) (signal : Signal) (cause : Cause) where
  abbrev parent : ℕ
  parent = told_by_signal s p signal.number

  abbrev TookCalm : Took Shared UserState → Type 0
  TookCalm t = OutCalms s child p (Alive b (Taken signal cause)) (took linux s p b signal cause t)

  took_either : (test : Bool) (x y : Took Shared UserState) → TookCalm x → TookCalm y → TookCalm (cond test x y)
  took_either true x y h g = h
  took_either false x y h g = g

  kill_took : (w : ℕ) → TookCalm (Kills w)
  kill_took w = λ kept. ends_calm s child p parent w kept

  -- its parent is told of a stop
  pub stop_told : is_stop signal.number ≡ true → Calms s (stopped s p signal) child p parent Plain
  stop_told h = subst (λ t. Calms s (stopped s p signal) child p (cond t (told_by p (maps.get s.entries p)) p) Plain) (sym h) (stop_calm s child p signal)

  halts_calm : (continued : Bool) → is_stop signal.number ≡ true → OutCalms s child p (Alive b (Taken signal cause)) (halts continued linux s p b signal)
  halts_calm true h = λ e. entry_calm s child p parent _ Plain
  halts_calm false h = λ e. stop_told h

  reacts_calm : (e : Entry) (r : Reaction) → (r ≡ reaction.Stops → is_stop signal.number ≡ true) → TookCalm (reacts s p e b signal r)
  reacts_calm e reaction.Passes h = λ e. entry_calm s child p parent _ Plain
  reacts_calm e reaction.Stops h = halts_calm (is_continued_at (maps.get s.entries p)) (h refl)
  reacts_calm e reaction.Ends h = kill_took signal.number
  reacts_calm e (reaction.Handles a) h = took_either (is_some (frame_fault b.memory b.hart)) _ _ (kill_took segv_word) (λ e. entries_calm s child p parent _ _ Plain)

  takes_at_calm : (o : Option Entry) → TookCalm (takes_at o s p b signal cause)
  takes_at_calm None = λ e. entry_calm s child p parent _ Plain
  takes_at_calm (Some e) = reacts_calm e (reaction_to e.signals signal cause) (reaction_stops e signal cause)

  takes_calm : TookCalm (takes s p b signal cause)
  unfolding takes
  takes_calm = takes_at_calm (maps.get s.entries p)

-- and of its end, by SIGCONT
wakes_calm : (s : Shared) (child p : ℕ) (b : UserState) (signal : Signal) (continued : Bool) → OutCalms s child p (Alive b (Stopped signal)) (wakes continued linux s p b signal)
wakes_calm s child p b signal true = λ e. wake_calm s child p
wakes_calm s child p b signal false = λ e. same_calm s child p (told_by p (maps.get s.entries p)) Plain

pub lives_calm : (c : Choice) (s : Shared) (child p : ℕ) (b : UserState) (stage : Stage) → OutCalms s child p (Alive b stage) (lives linux c s child p b stage)
lives_calm c s child p b Born = λ e. same_calm s child p p Plain
lives_calm c s child p b Run = runs_calm s child p b (next_of (maps.get s.entries p))
lives_calm c s child p b (Faulting signal cause) = λ e. same_calm s child p p Plain
lives_calm c s child p b (Entered joined) = λ e. joins_calm s child p joined c.signal
lives_calm c s child p b (Doing call) = answered_calm s child p b call (does s child p call b) (does_calm s child p call b)
lives_calm c s child p b (Replaced call x) = λ e. same_calm s child p p Plain
lives_calm c s child p b (Acted call x replaced) = λ e. same_calm s child p p Plain
lives_calm c s child p b Finished = λ e. same_calm s child p p Plain
lives_calm c s child p b (Taken signal cause) = takes_calm s child p b signal cause
lives_calm c s child p b Dropped = λ e. entry_calm s child p p _ Plain
lives_calm c s child p b (Stopped signal) = wakes_calm s child p b signal (is_continued_at (maps.get s.entries p))
lives_calm c s child p b Released = λ e. entry_calm s child p p _ Plain
lives_calm c s child p b Woken = λ e. same_calm s child p p Plain

killed_calm : (killed : Bool) (c : Choice) (s : Shared) (child p : ℕ) (b : UserState) (stage : Stage) → OutCalms s child p (Alive b stage) (killed_or killed linux c s child p b stage)
killed_calm true c s child p b stage = λ e. ends_calm s child p (told_at s p stage) 9 e
killed_calm false c s child p b stage = lives_calm c s child p b stage

pub turn_calm : CalmTurnsWakeNobody
turn_calm c s child p (Alive b stage) = killed_calm (is_killed (maps.get s.entries p)) c s child p b stage
turn_calm c s child p (Dying w) = λ e. burial_calm s child p w
turn_calm c s child p Gone = λ e. same_calm s child p p Plain
