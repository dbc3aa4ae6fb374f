-- No turn changes how many processes there may be.
use Rattle.std.proofs.Common.{◌≡◌, ℕ, Bool, true, false, List, [], ◌∷◌, Option, Some, None, refl, subst, ap, ◌∙◌}
use Rattle.std.specs.FinMap as maps
use Rattle.rv_hart.specs.declared.outcome.Step.{Step}
use Rattle.rv_hart.specs.declared.outcome.Step.TheVariants as step
use Rattle.rv_hart.specs.Steps.{Outcome, stepped as instruction}
use Rattle.lx_abi.specs.Log.{entries, items_of}
use Rattle.lx_abi.specs.declared.log.Call.{Call}
use Rattle.lx_abi.specs.declared.log.Cause.{Cause}
use Rattle.lx_abi.specs.declared.script.Choice.{Choice}
use Rattle.lx_abi.specs.declared.signal.Signal.{Signal}
use Rattle.lx_model.specs.Machine.{Refused, Returns, Jumps, Execs, Bears, Blocks, Ends, Took, Passes, Stops, Kills}
use Rattle.lx_model.specs.declared.event.PtraceEvent.{PtraceEvent}
use Rattle.lx_model.specs.declared.event.PtraceEvent.TheVariants.{Plain, Execed, Forked}
use Rattle.lx_model.specs.Turn.{Out, turn, killed_or, lives, stepped, answered, halts, took, wakes}
use Rattle.lx_model.specs.Kernel.{Script, Kernel, traces, choice_at, first_kernel, kernel_turn, kernel_run, with_child, after_turn}
use Rattle.lx_model.specs.declared.stage.Stage.{Stage}
use Rattle.lx_model.specs.declared.stage.Stage.TheVariants.{Born, Run, Faulting, Entered, Doing, Replaced, Acted, Finished, Taken, Dropped, Stopped, Released, Woken}
use Rattle.lx_model.specs.declared.stage.Task.{Task}
use Rattle.lx_model.specs.declared.stage.Task.TheVariants as task
use Rattle.lx_sig.specs.declared.state.Interrupted.{Interrupted}
use Rattle.lx_proc.specs.declared.state.Shared.{Shared}
use Rattle.lx_proc.specs.declared.state.UserState.{UserState}
use Rattle.lx_proc.specs.Answers.{Answers}
use Rattle.lx_boot.specs.First.{first_shared}
use Rattle.lx_exec.specs.Programs.{booted}
use Rattle.lx_pcalls.specs.Ends.{buried}
use Rattle.lx_pcalls.specs.Stops.{is_continued_at}
use Rattle.lx_pcalls.specs.Taking.{takes}
use Rattle.lx_turn.specs.Calls.{does}
use Rattle.lx_turn.specs.Linux.{linux}
use Rattle.lx_turn.specs.Reactions.{next_of, runs, resumed, ran_by, is_killed}
use Rattle.lx_sound.specs.Sound.{Agree, IsSound}
use Rattle.lx_sound.specs.Limits.{LimitsStay, KernelsKeepLimits}
use Rattle.lx_sound.proofs.Keeping.{DoesKeep}
use Rattle.lx_sound.proofs.Ends.{stopped_keeps, settles_keep, woken_keeps}
use Rattle.lx_sound.proofs.Turns.{does_kept, takes_kept, TookKeeps, joins_kept, alive_is, first_sound, turns_stay_sound}

module _ (s : Shared) where
  abbrev Same : Out Shared UserState → Type 0
  Same o = o.shared.limits ≡ s.limits

  ran_same : (p : ℕ) (b : UserState) (o : Outcome) (st : Step) → Same (stepped linux s p b (ran_by b o st))
  ran_same p b o step.Ran = refl
  ran_same p b o step.Call = refl
  ran_same p b o (step.Fault kind address) = refl

  resumed_same : (p : ℕ) (b : UserState) (x : Option Interrupted) → Same (stepped linux s p b (resumed b x))
  resumed_same p b (Some x) = refl
  resumed_same p b None = ran_same p b (instruction b.hart b.memory) (instruction b.hart b.memory).step

  runs_same : (p : ℕ) (b : UserState) (signal : Option Signal) → Same (stepped linux s p b (runs s p b signal))
  runs_same p b (Some signal) = refl
  runs_same p b None = resumed_same p b b.interrupted

  answered_same : (child p : ℕ) (b : UserState) (call : Call) (a : Answers) → DoesKeep child s p a → Same (answered linux s child p b call a)
  answered_same child p b call (Refused e) g = refl
  answered_same child p b call (Returns t c x) g = g.limits
  answered_same child p b call (Jumps t c) g = g.limits
  answered_same child p b call (Execs t c) g = g.limits
  answered_same child p b call (Bears t c newborn) g = ap (λ (u : Shared). u.limits) g.3
  answered_same child p b call Blocks g = refl
  answered_same child p b call (Ends w) g = refl

  halts_same : (p : ℕ) (b : UserState) (signal : Signal) (continued : Bool) → Same (halts continued linux s p b signal)
  halts_same p b signal true = (settles_keep s p).limits
  halts_same p b signal false = (stopped_keeps s p signal).limits

  wakes_same : (p : ℕ) (b : UserState) (signal : Signal) (continued : Bool) → Same (wakes continued linux s p b signal)
  wakes_same p b signal true = (woken_keeps s p).limits
  wakes_same p b signal false = refl

  took_same : (p : ℕ) (b : UserState) (signal : Signal) (cause : Cause) (t : Took Shared UserState) → TookKeeps s t → Same (took linux s p b signal cause t)
  took_same p b signal cause (Passes t c) g = (settles_keep t p).limits ∙ g.limits
  took_same p b signal cause Stops g = halts_same p b signal (is_continued_at (maps.get s.entries p))
  took_same p b signal cause (Kills w) g = refl

lives_same : (c : Choice) (k : Kernel Shared UserState) (p : ℕ) (b : UserState) (stage : Stage) → k.tasks p ≡ task.Alive b stage → IsSound k → (lives linux c k.shared k.child p b stage).shared.limits ≡ k.shared.limits
lives_same c k p b Born is h = refl
lives_same c k p b Run is h = runs_same k.shared p b (next_of (maps.get k.shared.entries p))
lives_same c k p b (Faulting signal cause) is h = refl
lives_same c k p b (Entered x) is h = (joins_kept k.shared p x c.signal).limits
lives_same c k p b (Doing call) is h =
    let alive = alive_is (maps.get k.shared.entries p) b (Doing call) (subst (λ (t : Task UserState). Agree (maps.get k.shared.entries p) t) is (h.agree p)) in
    answered_same k.shared k.child p b call (does k.shared k.child p call b) (does_kept k.child k.shared p call b h.parts alive)
lives_same c k p b (Replaced call x) is h = refl
lives_same c k p b (Acted call x replaced) is h = refl
lives_same c k p b Finished is h = refl
lives_same c k p b (Taken signal cause) is h = took_same k.shared p b signal cause (takes k.shared p b signal cause) (takes_kept k.shared p b signal cause h.parts)
lives_same c k p b Dropped is h = (settles_keep k.shared p).limits
lives_same c k p b (Stopped signal) is h = wakes_same k.shared p b signal (is_continued_at (maps.get k.shared.entries p))
lives_same c k p b Released is h = (settles_keep k.shared p).limits
lives_same c k p b Woken is h = refl

killed_same : (killed : Bool) (c : Choice) (k : Kernel Shared UserState) (p : ℕ) (b : UserState) (stage : Stage) → k.tasks p ≡ task.Alive b stage → IsSound k → (killed_or killed linux c k.shared k.child p b stage).shared.limits ≡ k.shared.limits
killed_same true c k p b stage is h = refl
killed_same false c k p b stage is h = lives_same c k p b stage is h

buried_same : (s : Shared) (p w : ℕ) → (buried s p w).limits ≡ s.limits
unfolding buried
buried_same s p w = refl

turn_same : (c : Choice) (k : Kernel Shared UserState) (p : ℕ) (x : Task UserState) → k.tasks p ≡ x → IsSound k → (turn linux c k.shared k.child p x).shared.limits ≡ k.shared.limits
turn_same c k p (task.Alive b stage) is h = killed_same (is_killed (maps.get k.shared.entries p)) c k p b stage is h
turn_same c k p (task.Dying w) is h = buried_same k.shared p w
turn_same c k p task.Gone is h = refl

child_same : (k : Kernel Shared UserState) (e : PtraceEvent UserState) → (with_child k e).shared ≡ k.shared
child_same k Plain = refl
child_same k Execed = refl
child_same k (Forked b) = refl

pub limits_stay : LimitsStay
limits_stay script follow k p h =
    let c : Choice = choice_at linux script (traces follow p) (λ n. entries p n (items_of k.log)) (k.tasks p) in
    let o : Out Shared UserState = turn linux c k.shared k.child p (k.tasks p) in
    ap (λ (s : Shared). s.limits) (child_same (after_turn k p o) o.event) ∙ turn_same c k p (k.tasks p) refl h

runs_keep : (script : Script) (follow : Bool) (k : Kernel Shared UserState) (pids : List ℕ) → IsSound k → (kernel_run linux script follow k pids).shared.limits ≡ k.shared.limits
runs_keep script follow k [] h = refl
runs_keep script follow k (p ∷ pids) h = runs_keep script follow (kernel_turn linux script follow k p) pids (turns_stay_sound script follow k p h) ∙ limits_stay script follow k p h

pub kernels_keep_limits : KernelsKeepLimits
kernels_keep_limits script follow boot pids none = runs_keep script follow (first_kernel (first_shared boot.limits boot.files boot.input) (booted boot.argv boot.env)) pids (first_sound boot none)
