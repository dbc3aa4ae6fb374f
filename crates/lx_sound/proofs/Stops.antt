-- Each process's signals say where it stands, whoever takes a turn.
use Rattle.std.proofs.Common.{◌≡◌, ℕ, Bool, true, false, cond, List, [], ◌∷◌, Option, Some, None, refl, ap, sym, subst, ◌∙◌, arith, ⊎_elim}
use Rattle.std.proofs.lemmas.Bool.Decides.{nat_tests}
use Rattle.std.specs.Prelude.{◌==◌, is_some}
use Rattle.std.specs.Cmp.{nat_cmp_total}
use Rattle.std.specs.Ordering.{nat_cmp}
use Rattle.std.specs.FinMap as maps
use Rattle.rv_hart.specs.declared.outcome.Step.{Step}
use Rattle.rv_hart.specs.declared.outcome.Step.TheVariants as step
use Rattle.rv_hart.specs.declared.outcome.FaultKind.{FaultKind}
use Rattle.rv_hart.specs.declared.outcome.FaultKind.TheVariants as fault
use Rattle.rv_hart.specs.Steps.{Outcome, stepped as instruction}
use Rattle.lx_abi.specs.Log.{entries, items_of}
use Rattle.lx_abi.specs.Signals.{is_stop}
use Rattle.lx_abi.specs.declared.log.Call.{Call}
use Rattle.lx_abi.specs.declared.log.Cause.{Cause}
use Rattle.lx_abi.specs.declared.log.Cause.TheVariants.{Kernel as By_kernel}
use Rattle.lx_abi.specs.declared.script.Choice.{Choice}
use Rattle.lx_abi.specs.declared.signal.Signal.{Signal}
use Rattle.lx_model.specs.Machine.{Refused, Returns, Jumps, Execs, Bears, Blocks, Ends, Took, Passes, Stops, Kills}
use Rattle.lx_model.specs.Turn.{Out, turn, killed_or, lives, stepped, answered, halts, took, wakes, joins, chosen, gives}
use Rattle.lx_model.specs.Kernel.{Script, Kernel, put, born, traces, choice_at, first_kernel, kernel_turn, kernel_run}
use Rattle.lx_model.specs.declared.stage.Stage.{Stage}
use Rattle.lx_model.specs.declared.stage.Stage.TheVariants.{Born, Run, Faulting, Entered, Doing, Replaced, Acted, Finished, Taken, Dropped, Stopped, Released, Woken}
use Rattle.lx_model.specs.declared.stage.Task.{Task}
use Rattle.lx_model.specs.declared.stage.Task.TheVariants as task
use Rattle.lx_sig.specs.Frames.{blocking, frame_fault}
use Rattle.lx_sig.specs.Pending.{settled, without_pending}
use Rattle.lx_sig.specs.Reactions.{reaction as reaction_to}
use Rattle.lx_sig.specs.declared.reactions.Reaction.{Reaction}
use Rattle.lx_sig.specs.declared.reactions.Reaction.TheVariants as reaction
use Rattle.lx_sig.specs.declared.state.Interrupted.{Interrupted}
use Rattle.lx_sig.specs.declared.state.Job.{Job}
use Rattle.lx_sig.specs.declared.state.Job.TheVariants.{Free, AtStop}
use Rattle.lx_proc.specs.Answers.{Answers}
use Rattle.lx_proc.specs.Sending.{receives}
use Rattle.lx_proc.specs.State.{Entries, changed, changed_entry, with_entries, with_signals}
use Rattle.lx_proc.specs.declared.state.Entry.{Entry}
use Rattle.lx_proc.specs.declared.state.Shared.{Shared}
use Rattle.lx_proc.specs.declared.state.UserState.{UserState}
use Rattle.lx_boot.specs.First.{first_entry, first_shared}
use Rattle.lx_exec.specs.Programs.{booted}
use Rattle.lx_pcalls.specs.Clone.{child_entry}
use Rattle.lx_pcalls.specs.Stops.{is_continued_at, settles, stopped, woken}
use Rattle.lx_pcalls.specs.Taking.{takes, takes_at, reacts}
use Rattle.lx_turn.specs.Calls.{does}
use Rattle.lx_turn.specs.Linux.{linux}
use Rattle.lx_turn.specs.Reactions.{next_of, runs, resumed, ran_by, is_killed, fault_signal}
use Rattle.lx_turn.proofs.CallsFit.{reaction_stops}
use Rattle.lx_sound.specs.Jobs.{is_at_stop, Stands, JobFits, JobsFit, TurnsKeepJobs, KernelsHaveJobs}
use Rattle.lx_sound.specs.Sound.{IsSound}
use Rattle.lx_sound.proofs.Maps.{inserted, inserted_other, there_now}
use Rattle.lx_sound.proofs.Turns.{next, first_sound, turns_stay_sound}
use Rattle.lx_sound.proofs.CallJobs.{AnswerJobs, does_jobs}
use Rattle.lx_sound.proofs.Jobs.{KeepsJob, SameJob, SameJobs, OthersJobs, job_stays, same_job, then_job, jobs_stay, jobs_then, changed_job, changed_at, received_job, own_job, stopped_job, woken_job, IsFree, woken_own, buried_job, dies_job}

same_number : (n k : ℕ) → (n == k) ≡ true → n ≡ k
same_number n k h = grind (arith, nat_tests)

turned : (n k : ℕ) → (n == k) ≡ false → (k == n) ≡ false
turned n k h = grind (arith, nat_tests)

itself : (n : ℕ) → (n == n) ≡ true
itself n = grind (arith, nat_tests)

-- A process stands where it stood, or elsewhere.

at_same : (j j' : Job) → KeepsJob j j' → is_at_stop j' ≡ is_at_stop j
at_same Free j' h = ap is_at_stop h
at_same (AtStop c) Free h = absurd h
at_same (AtStop c) (AtStop d) h = refl

stands_on : (j j' : Job) (stage : Stage) → is_at_stop j' ≡ is_at_stop j → Stands j stage → Stands j' stage
stands_on j j' Born at h = at ∙ h
stands_on j j' Run at h = at ∙ h
stands_on j j' (Faulting signal cause) at h = (at ∙ h.0, h.1)
stands_on j j' (Entered x) at h = at ∙ h
stands_on j j' (Doing call) at h = at ∙ h
stands_on j j' (Replaced call x) at h = at ∙ h
stands_on j j' (Acted call x replaced) at h = at ∙ h
stands_on j j' Finished at h = at ∙ h
stands_on j j' (Taken signal cause) at h = at ∙ h
stands_on j j' Dropped at h = tt
stands_on j j' (Stopped signal) at h = at ∙ h
stands_on j j' Released at h = tt
stands_on j j' Woken at h = at ∙ h

job_fits : (o o' : Option Entry) (x : Task UserState) → SameJob o o' → JobFits o x → JobFits o' x
job_fits o None x same h = tt
job_fits None (Some e') x same h = absurd same
job_fits (Some e) (Some e') (task.Alive b stage) same h = stands_on e.signals.job e'.signals.job stage (at_same e.signals.job e'.signals.job same) h
job_fits (Some e) (Some e') (task.Dying w) same h = tt
job_fits (Some e) (Some e') task.Gone same h = tt

fits_as : (o o' : Option Entry) (b c : UserState) (stage to : Stage) → SameJob o o' → ((j j' : Job) → is_at_stop j' ≡ is_at_stop j → Stands j stage → Stands j' to) → JobFits o (task.Alive b stage) → JobFits o' (task.Alive c to)
fits_as o None b c stage to same so h = tt
fits_as None (Some e') b c stage to same so h = absurd same
fits_as (Some e) (Some e') b c stage to same so h = so e.signals.job e'.signals.job (at_same e.signals.job e'.signals.job same) h

dying_fits : (o : Option Entry) (w : ℕ) → JobFits o (task.Dying w)
dying_fits None w = tt
dying_fits (Some e) w = tt

gone_fits : (o : Option Entry) → JobFits o task.Gone
gone_fits None = tt
gone_fits (Some e) = tt

-- the process whose turn it is has another entry
own_fits : (m : Entries) (p : ℕ) (f : Entry → Entry) (x : Task UserState) → ((e : Entry) → maps.get m p ≡ Some e → JobFits (Some (f e)) x) → JobFits (maps.get (changed m p f) p) x
own_fits m p f x so = go (maps.get m p) refl
  where
    go : (o : Option Entry) → maps.get m p ≡ o → JobFits (maps.get (changed_entry m p f o) p) x
    go None there = subst (λ o. JobFits o x) (sym there) tt
    go (Some e) there = subst (λ o. JobFits o x) (sym (there_now nat_cmp_total m p (f e))) (so e there)

-- of who was there and has no turn the job is kept
abbrev pub OthersKeep : Entries → Entries → ℕ → Type 0
OthersKeep m m' p = (q : ℕ) → (q ≡ p → ⊥) → is_some (maps.get m q) ≡ true → SameJob (maps.get m q) (maps.get m' q)

chosen_stands : (j : Job) (call : Call) (o : Option ℕ) → is_at_stop j ≡ false → Stands j (chosen call o)
chosen_stands j call None h = h
chosen_stands j call (Some x) h = h

no_fault_stops : (kind : FaultKind) → is_stop (fault_signal kind).number ≡ false
no_fault_stops fault.Misaligned = refl
no_fault_stops fault.Illegal = refl
no_fault_stops fault.Breakpoint = refl
no_fault_stops fault.Unmapped = refl
no_fault_stops fault.Forbidden = refl

taken_stands : (n : ℕ) (stop : Bool) → is_stop n ≡ stop → is_at_stop (cond stop (AtStop false) Free) ≡ stop
taken_stands n true is = refl
taken_stands n false is = refl

-- what a signal that is taken does
abbrev TookJobs : Shared → Signal → Took Shared UserState → Type 0
TookJobs s signal (Passes t c) = SameJobs s.entries t.entries
TookJobs s signal Stops = is_stop signal.number ≡ true
TookJobs s signal (Kills w) = Unit {0}

took_either : (s : Shared) (signal : Signal) (t : Bool) (x y : Took Shared UserState) → TookJobs s signal x → TookJobs s signal y → TookJobs s signal (cond t x y)
took_either s signal true x y h g = h
took_either s signal false x y h g = g

reacts_jobs : (s : Shared) (p : ℕ) (e : Entry) (b : UserState) (signal : Signal) (r : Reaction) → maps.get s.entries p ≡ Some e → (r ≡ reaction.Stops → is_stop signal.number ≡ true) → TookJobs s signal (reacts s p e b signal r)
reacts_jobs s p e b signal reaction.Passes there h = jobs_stay s.entries
reacts_jobs s p e b signal reaction.Stops there h = h refl
reacts_jobs s p e b signal reaction.Ends there h = tt
reacts_jobs s p e b signal (reaction.Handles a) there h =
    took_either s signal (is_some (frame_fault b.memory b.hart)) _ _ tt
    (changed_at s.entries p (λ x. with_signals x (blocking e.signals signal a)) e there (job_stays e.signals.job))

takes_jobs : (s : Shared) (p : ℕ) (b : UserState) (signal : Signal) (cause : Cause) → TookJobs s signal (takes s p b signal cause)
unfolding takes
takes_jobs s p b signal cause = go (maps.get s.entries p) refl
  where
    go : (o : Option Entry) → maps.get s.entries p ≡ o → TookJobs s signal (takes_at o s p b signal cause)
    go None there = jobs_stay s.entries
    go (Some e) there = reacts_jobs s p e b signal (reaction_to e.signals signal cause) there (reaction_stops e signal cause)

-- Turns.

-- after a turn each process stands as its signals say, and of others nothing was taken back
abbrev pub Both : Kernel Shared UserState → ℕ → Out Shared UserState → Type 0
Both k p o = OthersKeep k.shared.entries o.shared.entries p × JobsFit (next k p o)

module _ (k : Kernel Shared UserState) (p : ℕ) (h : JobsFit k) where
  fits_with : (t : Shared) (x : Task UserState) → OthersJobs p k.shared.entries t.entries → JobFits (maps.get t.entries p) x → (q : ℕ) → JobFits (maps.get t.entries q) (put k.tasks p x q)
  fits_with t x same own q = go (p == q) refl
    where
      go : (e : Bool) → (p == q) ≡ e → JobFits (maps.get t.entries q) (cond e x (k.tasks q))
      go true is = subst (λ i. JobFits (maps.get t.entries i) x) (same_number p q is) own
      go false other = job_fits (maps.get k.shared.entries q) (maps.get t.entries q) (k.tasks q) (same q (λ is. absurd (cc (sym (itself p) ∙ ap (λ i. p == i) (sym is) ∙ other)))) (h q)

  whole : (t : Shared) → SameJobs k.shared.entries t.entries → OthersKeep k.shared.entries t.entries p
  whole t same q ne some = same q

  ends : (w : ℕ) → OthersKeep k.shared.entries (linux.die k.shared p w).entries p × ((q : ℕ) → JobFits (maps.get (linux.die k.shared p w).entries q) (put k.tasks p (task.Dying w) q))
  ends w =
      let t = linux.die k.shared p w in
      (whole t (dies_job k.shared p w), fits_with t (task.Dying w) (λ q ne. dies_job k.shared p w q) (dying_fits (maps.get t.entries p) w))

  -- the process leaves the signal that it took, or its group stop
  settled_both : (t : Shared) (c : UserState) → SameJobs k.shared.entries t.entries → Both k p (gives (settles t p) (task.Alive c Run))
  settled_both t c same =
      let f : Entry → Entry = λ e. with_signals e (settled e.signals) in
      let others : OthersJobs p k.shared.entries (settles t p).entries = λ q ne. then_job (maps.get k.shared.entries q) (maps.get t.entries q) (maps.get (settles t p).entries q) (same q) (own_job t.entries p f q ne) in
      ((λ q ne some. others q ne), fits_with (settles t p) (task.Alive c Run) others (own_fits t.entries p f (task.Alive c Run) (λ e there. refl)))

module _ (k : Kernel Shared UserState) (p : ℕ) (b : UserState) (stage : Stage) (is : k.tasks p ≡ task.Alive b stage) (sound : IsSound k) (h : JobsFit k) where
  abbrev Goes : Out Shared UserState → Type 0
  Goes o = Both k p o

  own : JobFits (maps.get k.shared.entries p) (task.Alive b stage)
  own = subst (JobFits (maps.get k.shared.entries p)) is (h p)

  on : (t : Shared) (c : UserState) (to : Stage) → SameJobs k.shared.entries t.entries → ((j j' : Job) → is_at_stop j' ≡ is_at_stop j → Stands j stage → Stands j' to) → OthersKeep k.shared.entries t.entries p × ((q : ℕ) → JobFits (maps.get t.entries q) (put k.tasks p (task.Alive c to) q))
  on t c to same so =
      (whole k p h t same, fits_with k p h t (task.Alive c to) (λ q ne. same q) (fits_as (maps.get k.shared.entries p) (maps.get t.entries p) b c stage to (same p) so own))

  here : (c : UserState) (to : Stage) → ((j j' : Job) → is_at_stop j' ≡ is_at_stop j → Stands j stage → Stands j' to) → OthersKeep k.shared.entries k.shared.entries p × ((q : ℕ) → JobFits (maps.get k.shared.entries q) (put k.tasks p (task.Alive c to) q))
  here c to so = on k.shared c to (jobs_stay k.shared.entries) so

-- at each stage at which a process is at no stop
module _ (k : Kernel Shared UserState) (p : ℕ) (b : UserState) (is : k.tasks p ≡ task.Alive b Run) (sound : IsSound k) (h : JobsFit k) where
  ran_both : (o : Outcome) (st : Step) → Both k p (stepped linux k.shared p b (ran_by b o st))
  ran_both o step.Ran = here k p b Run is sound h _ Run (λ j j' at st. at ∙ st)
  ran_both o step.Call = here k p b Run is sound h b (Entered None) (λ j j' at st. at ∙ st)
  ran_both o (step.Fault kind address) = here k p b Run is sound h b _ (λ j j' at st. (at ∙ st, no_fault_stops kind))

  resumed_both : (x : Option Interrupted) → Both k p (stepped linux k.shared p b (resumed b x))
  resumed_both (Some x) = here k p b Run is sound h _ Run (λ j j' at st. at ∙ st)
  resumed_both None = ran_both (instruction b.hart b.memory) (instruction b.hart b.memory).step

  runs_both : (signal : Option Signal) → Both k p (stepped linux k.shared p b (runs k.shared p b signal))
  runs_both (Some signal) =
      let f : Entry → Entry = λ e. with_signals e (without_pending e.signals signal) in
      let t : Shared = with_entries k.shared (changed k.shared.entries p f) in
      let others : OthersJobs p k.shared.entries t.entries = own_job k.shared.entries p f in
      ((λ q ne some. others q ne), fits_with k p h t (task.Alive b _) others (own_fits k.shared.entries p f (task.Alive b _) (λ e there. taken_stands signal.number (is_stop signal.number) refl)))
  runs_both None = resumed_both b.interrupted

module _ (k : Kernel Shared UserState) (p : ℕ) (b : UserState) (call : Call) (is : k.tasks p ≡ task.Alive b (Doing call)) (sound : IsSound k) (h : JobsFit k) where
  vacant : maps.get k.shared.entries k.child ≡ None
  vacant = sound.pids k.child (omega arith)

  bears_both : (t : Shared) (c newborn : UserState) (e : Entry) → t.entries ≡ maps.insert k.shared.entries k.child (child_entry e p) → (x : ℕ) →
      OthersKeep k.shared.entries t.entries p × ((q : ℕ) → JobFits (maps.get t.entries q) (put (put k.tasks p (task.Alive c (Acted call x false))) k.child (task.Alive newborn Born) q))
  bears_both t c newborn e is_put x = (others, λ q. subst (λ (m : Entries). JobFits (maps.get m q) (put after k.child (task.Alive newborn Born) q)) (sym is_put) (go q (k.child == q) refl))
    where
      after : ℕ → Task UserState
      after = put k.tasks p (task.Alive c (Acted call x false))

      old : (q : ℕ) → JobFits (maps.get k.shared.entries q) (after q)
      old = (here k p b (Doing call) is sound h c (Acted call x false) (λ j j' at st. at ∙ st)).1

      go : (q : ℕ) (t : Bool) → (k.child == q) ≡ t → JobFits (maps.get (maps.insert k.shared.entries k.child (child_entry e p)) q) (cond t (task.Alive newborn Born) (after q))
      go q true eq =
          subst (λ i. JobFits (maps.get (maps.insert k.shared.entries k.child (child_entry e p)) i) (task.Alive newborn Born)) (same_number k.child q eq)
          (subst (λ o. JobFits o (task.Alive newborn Born)) (sym (there_now nat_cmp_total k.shared.entries k.child (child_entry e p))) refl)
      go q false other = subst (λ o. JobFits o (after q)) (sym (inserted_other k.shared.entries k.child (child_entry e p) q (turned k.child q other))) (old q)

      stays : (q : ℕ) (t : Bool) → (q == k.child) ≡ t → is_some (maps.get k.shared.entries q) ≡ true → SameJob (maps.get k.shared.entries q) (maps.get (maps.insert k.shared.entries k.child (child_entry e p)) q)
      stays q true eq some = absurd (cc (sym some ∙ ap (λ i. is_some (maps.get k.shared.entries i)) (same_number q k.child eq) ∙ ap is_some vacant))
      stays q false other some = subst (SameJob (maps.get k.shared.entries q)) (sym (inserted_other k.shared.entries k.child (child_entry e p) q other)) (same_job (maps.get k.shared.entries q))

      others : OthersKeep k.shared.entries t.entries p
      others q ne some = subst (λ (m : Entries). SameJob (maps.get k.shared.entries q) (maps.get m q)) (sym is_put) (stays q (q == k.child) refl some)

  answered_both : (a : Answers) → AnswerJobs k.child k.shared p a → Both k p (answered linux k.shared k.child p b call a)
  answered_both (Refused e) g = here k p b (Doing call) is sound h _ _ (λ j j' at st. at ∙ st)
  answered_both (Returns t c x) g = on k p b (Doing call) is sound h t _ _ g (λ j j' at st. at ∙ st)
  answered_both (Jumps t c) g = on k p b (Doing call) is sound h t c _ g (λ j j' at st. at ∙ st)
  answered_both (Execs t c) g = on k p b (Doing call) is sound h t c _ g (λ j j' at st. at ∙ st)
  answered_both (Bears t c newborn) g = bears_both t _ newborn g.0 g.1 k.child
  answered_both Blocks g = here k p b (Doing call) is sound h b (Doing call) (λ j j' at st. at ∙ st)
  answered_both (Ends w) g = ends k p h w

module _ (k : Kernel Shared UserState) (p : ℕ) (b : UserState) (signal : Signal) (sound : IsSound k) (h : JobsFit k) where
  halts_both : (cause : Cause) → k.tasks p ≡ task.Alive b (Taken signal cause) → is_stop signal.number ≡ true → (continued : Bool) → Both k p (halts continued linux k.shared p b signal)
  halts_both cause is stop true = settled_both k p h k.shared b (jobs_stay k.shared.entries)
  halts_both cause is stop false = on k p b (Taken signal cause) is sound h (stopped k.shared p signal) b (Stopped signal) (stopped_job k.shared p signal) (λ j j' at st. at ∙ st ∙ stop)

  took_both : (cause : Cause) → k.tasks p ≡ task.Alive b (Taken signal cause) → (t : Took Shared UserState) → TookJobs k.shared signal t → Both k p (took linux k.shared p b signal cause t)
  took_both cause is (Passes t c) g = settled_both k p h t c g
  took_both cause is Stops g = halts_both cause is g (is_continued_at (maps.get k.shared.entries p))
  took_both cause is (Kills w) g = ends k p h w

  wakes_both : k.tasks p ≡ task.Alive b (Stopped signal) → (continued : Bool) → Both k p (wakes continued linux k.shared p b signal)
  wakes_both is true =
      let t : Shared = woken k.shared p in
      ((λ q ne some. woken_job k.shared p q ne), fits_with k p h t (task.Alive b Woken) (woken_job k.shared p) (woken_fits (maps.get t.entries p) (woken_own k.shared p)))
    where
      woken_fits : (o : Option Entry) → IsFree o → JobFits o (task.Alive b Woken)
      woken_fits None free = tt
      woken_fits (Some e) free = ap is_at_stop free
  wakes_both is false = here k p b (Stopped signal) is sound h b (Stopped signal) (λ j j' at st. at ∙ st)

join_jobs : (s : Shared) (p : ℕ) (x : Option Signal) → SameJobs s.entries (joins linux s p x).entries
join_jobs s p None = jobs_stay s.entries
join_jobs s p (Some signal) = changed_job s.entries p (λ e. receives e signal By_kernel) (λ e. received_job e signal By_kernel)

lives_both : (c : Choice) (k : Kernel Shared UserState) (p : ℕ) (b : UserState) (stage : Stage) → k.tasks p ≡ task.Alive b stage → IsSound k → JobsFit k → Both k p (lives linux c k.shared k.child p b stage)
lives_both c k p b Born is sound h = here k p b Born is sound h b Run (λ j j' at st. at ∙ st)
lives_both c k p b Run is sound h = runs_both k p b is sound h (next_of (maps.get k.shared.entries p))
lives_both c k p b (Faulting signal cause) is sound h = here k p b (Faulting signal cause) is sound h b (Taken signal cause) (λ j j' at st. at ∙ st.0 ∙ sym st.1)
lives_both c k p b (Entered x) is sound h =
    let one : Shared = joins linux k.shared p x in
    let two : Shared = joins linux one p c.signal in
    on k p b (Entered x) is sound h two b _ (jobs_then k.shared.entries one.entries two.entries (join_jobs k.shared p x) (join_jobs one p c.signal)) (λ j j' at st. chosen_stands j' _ _ (at ∙ st))
lives_both c k p b (Doing call) is sound h = answered_both k p b call is sound h (does k.shared k.child p call b) (does_jobs k.child k.shared p call b)
lives_both c k p b (Replaced call x) is sound h = here k p b (Replaced call x) is sound h _ _ (λ j j' at st. at ∙ st)
lives_both c k p b (Acted call x replaced) is sound h = here k p b (Acted call x replaced) is sound h b Finished (λ j j' at st. at ∙ st)
lives_both c k p b Finished is sound h = here k p b Finished is sound h b Run (λ j j' at st. at ∙ st)
lives_both c k p b (Taken signal cause) is sound h = took_both k p b signal sound h cause is (takes k.shared p b signal cause) (takes_jobs k.shared p b signal cause)
lives_both c k p b Dropped is sound h = settled_both k p h k.shared b (jobs_stay k.shared.entries)
lives_both c k p b (Stopped signal) is sound h = wakes_both k p b signal sound h is (is_continued_at (maps.get k.shared.entries p))
lives_both c k p b Released is sound h = settled_both k p h k.shared b (jobs_stay k.shared.entries)
lives_both c k p b Woken is sound h = here k p b Woken is sound h b Run (λ j j' at st. at ∙ st)

killed_both : (killed : Bool) (c : Choice) (k : Kernel Shared UserState) (p : ℕ) (b : UserState) (stage : Stage) → k.tasks p ≡ task.Alive b stage → IsSound k → JobsFit k → Both k p (killed_or killed linux c k.shared k.child p b stage)
killed_both true c k p b stage is sound h = ends k p h 9
killed_both false c k p b stage is sound h = lives_both c k p b stage is sound h

turn_both : (c : Choice) (k : Kernel Shared UserState) (p : ℕ) (x : Task UserState) → k.tasks p ≡ x → IsSound k → JobsFit k → Both k p (turn linux c k.shared k.child p x)
turn_both c k p (task.Alive b stage) is sound h = killed_both (is_killed (maps.get k.shared.entries p)) c k p b stage is sound h
turn_both c k p (task.Dying w) is sound h =
    let t : Shared = linux.release_task k.shared p w in
    (whole k p h t (buried_job k.shared p w), fits_with k p h t task.Gone (λ q ne. buried_job k.shared p w q) (gone_fits (maps.get t.entries p)))
turn_both c k p task.Gone is sound h =
    (whole k p h k.shared (jobs_stay k.shared.entries), fits_with k p h k.shared task.Gone (λ q ne. jobs_stay k.shared.entries q) (gone_fits (maps.get k.shared.entries p)))

pub turns_both : (script : Script) (follow : Bool) (k : Kernel Shared UserState) (p : ℕ) → IsSound k → JobsFit k → Both k p (turn linux (choice_at linux script (traces follow p) (λ n. entries p n (items_of k.log)) (k.tasks p)) k.shared k.child p (k.tasks p))
turns_both script follow k p sound h = turn_both (choice_at linux script (traces follow p) (λ n. entries p n (items_of k.log)) (k.tasks p)) k p (k.tasks p) refl sound h

pub turns_keep_jobs : TurnsKeepJobs
turns_keep_jobs script follow k p sound h = (turns_both script follow k p sound h).1

-- From a boot on.

first_fits : (o : Option Entry) → ((e : Entry) → o ≡ Some e → e.signals.job ≡ Free) → (t : Bool) (b : UserState) → JobFits o (born t b)
first_fits None free t b = tt
first_fits (Some e) free true b = ap is_at_stop (free e refl)
first_fits (Some e) free false b = tt

first_free : (p : ℕ) (e : Entry) → maps.get (maps.insert (maps.empty {X = Entry} {R = nat_cmp}) 1 first_entry) p ≡ Some e → e.signals.job ≡ Free
first_free p e is = ⊎_elim (λ same. ap (λ (x : Entry). x.signals.job) (sym same)) (λ old. absurd (cc (sym (maps.get-empty nat_cmp p) ∙ old))) (inserted nat_cmp_total maps.empty 1 first_entry p e is)

runs_fit : (script : Script) (follow : Bool) (k : Kernel Shared UserState) (pids : List ℕ) → IsSound k → JobsFit k → JobsFit (kernel_run linux script follow k pids)
runs_fit script follow k [] sound h = h
runs_fit script follow k (p ∷ pids) sound h = runs_fit script follow (kernel_turn linux script follow k p) pids (turns_stay_sound script follow k p sound) (turns_keep_jobs script follow k p sound h)

pub kernels_have_jobs : KernelsHaveJobs
kernels_have_jobs script follow boot pids none =
    let first = first_kernel (first_shared boot.limits boot.files boot.input) (booted boot.argv boot.env) in
    runs_fit script follow first pids (first_sound boot none) (λ p. first_fits (maps.get first.shared.entries p) (first_free p) (p == 1) (booted boot.argv boot.env))
