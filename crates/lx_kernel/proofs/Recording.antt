-- Each turn that logs an end puts its wait word into what is shared, and no other turn changes the words.
use Rattle.std.proofs.Common.{◌≡◌, ℕ, Bool, true, false, List, [], ◌∷◌, Option, Some, None, refl, ap, sym, ◌∙◌}
use Rattle.std.specs.Prelude.{fold}
use Rattle.std.specs.Option.{option_to_list}
use Rattle.std.specs.FinMap as maps
use Rattle.std.proofs.lemmas.Grind.{fold-append}
use Rattle.rv_hart.specs.declared.outcome.Step.{Step}
use Rattle.rv_hart.specs.declared.outcome.Step.TheVariants as step
use Rattle.rv_hart.specs.Steps.{Outcome, stepped as instruction}
use Rattle.lx_abi.specs.Log.{entries}
use Rattle.lx_abi.specs.Scripts.{choice_of}
use Rattle.lx_abi.specs.declared.log.Call.{Call}
use Rattle.lx_abi.specs.declared.log.Cause.{Cause}
use Rattle.lx_abi.specs.declared.script.Choice.{Choice}
use Rattle.lx_abi.specs.declared.signal.Signal.{Signal}
use Rattle.lx_model.specs.Machine.{Answer, Refused, Returns, Jumps, Execs, Bears, Blocks, Ends, Took, Passes, Stops, Kills}
use Rattle.lx_model.specs.declared.event.PtraceEvent.{PtraceEvent}
use Rattle.lx_model.specs.declared.event.PtraceEvent.TheVariants.{Plain, Execed, Forked}
use Rattle.lx_model.specs.Turn.{Out, turn, killed_or, lives, joins, stepped, answered, halts, took, wakes}
use Rattle.lx_model.specs.Kernel.{Script, traces, choice_at, first_kernel, kernel_run}
use Rattle.lx_model.specs.Finite.{Is, at, item_of, Running, ran, bore, turn_out, running_turn, running, first_running}
use Rattle.lx_model.specs.Laws.{KernelsBeginAlike, KernelsRunAlike}
use Rattle.lx_model.specs.declared.stage.Stage.{Stage}
use Rattle.lx_model.specs.declared.stage.Stage.TheVariants.{Born, Run, Faulting, Entered, Doing, Replaced, Acted, Finished, Taken, Dropped, Stopped, Released, Woken}
use Rattle.lx_model.specs.declared.stage.Task.{Task}
use Rattle.lx_model.specs.declared.stage.Task.TheVariants.{Alive, Dying, Gone}
use Rattle.lx_proc.specs.declared.state.Shared.{Shared}
use Rattle.lx_proc.specs.declared.state.UserState.{UserState}
use Rattle.lx_sig.specs.declared.state.Interrupted.{Interrupted}
use Rattle.lx_turn.specs.Calls.{does}
use Rattle.lx_pcalls.specs.Ends.{buried}
use Rattle.lx_turn.specs.Fitting.{Fits, TookFits}
use Rattle.lx_boot.specs.First.{first_shared}
use Rattle.lx_kernel.specs.First.{first_run}
use Rattle.lx_kernel.specs.Laws.{after_all, with_end, logged_words, HasLoggedWords, TurnsLogWords, BootsLogWords, KernelsLogWords}
use Rattle.lx_pcalls.specs.Stops.{is_continued_at, stopped, woken}
use Rattle.lx_pcalls.specs.Taking.{takes}
use Rattle.lx_turn.specs.Linux.{linux}
use Rattle.lx_turn.specs.Reactions.{next_of, runs as runs_in, resumed, ran_by, is_killed}
use Rattle.lx_exec.specs.Programs.{booted}
use Rattle.lx_kernel.specs.Runs.{Run as KernelRun, after_turn}
use Rattle.lx_turn.proofs.CallsFit.{calls_fit, takes_fit}

-- A turn.

-- an out has the words of what was shared, with that of its item
abbrev Records : Shared → Out Shared UserState → Type 0
Records s o = o.shared.ended ≡ fold with_end s.ended (option_to_list (item_of o))

ran_records : (s : Shared) (p : ℕ) (b : UserState) (o : Outcome) (st : Step) → Records s (stepped linux s p b (ran_by b o st))
ran_records s p b o step.Ran = refl
ran_records s p b o step.Call = refl
ran_records s p b o (step.Fault kind address) = refl

resumed_records : (s : Shared) (p : ℕ) (b : UserState) (at : Option Interrupted) → Records s (stepped linux s p b (resumed b at))
resumed_records s p b (Some at) = refl
resumed_records s p b None = ran_records s p b (instruction b.hart b.memory) (instruction b.hart b.memory).step

runs_record : (s : Shared) (p : ℕ) (b : UserState) (signal : Option Signal) → Records s (stepped linux s p b (runs_in s p b signal))
runs_record s p b (Some signal) = refl
runs_record s p b None = resumed_records s p b b.interrupted

answered_records : (s : Shared) (child p : ℕ) (b : UserState) (call : Call) (a : Answer Shared UserState) → Fits child s call a → Records s (answered linux s child p b call a)
answered_records s child p b call (Refused x) h = refl
answered_records s child p b call (Returns t c x) h = h
answered_records s child p b call (Jumps t c) h = h
answered_records s child p b call (Execs t c) h = h.0
answered_records s child p b call (Bears t c born) h = h.words
answered_records s child p b call Blocks h = refl
answered_records s child p b call (Ends w) h = refl

stopped_words : (s : Shared) (p : ℕ) (signal : Signal) → (stopped s p signal).ended ≡ s.ended
unfolding stopped
stopped_words s p signal = refl

woken_words : (s : Shared) (p : ℕ) → (woken s p).ended ≡ s.ended
unfolding woken
woken_words s p = refl

halts_record : (continued : Bool) (s : Shared) (p : ℕ) (b : UserState) (signal : Signal) → Records s (halts continued linux s p b signal)
halts_record true s p b signal = refl
halts_record false s p b signal = stopped_words s p signal

wakes_record : (continued : Bool) (s : Shared) (p : ℕ) (b : UserState) (signal : Signal) → Records s (wakes continued linux s p b signal)
wakes_record true s p b signal = woken_words s p
wakes_record false s p b signal = refl

took_records : (s : Shared) (p : ℕ) (b : UserState) (signal : Signal) (cause : Cause) (t : Took Shared UserState) → TookFits s signal t → Records s (took linux s p b signal cause t)
took_records s p b signal cause (Passes t c) h = h
took_records s p b signal cause Stops h = halts_record (is_continued_at (maps.get s.entries p)) s p b signal
took_records s p b signal cause (Kills w) h = refl

joins_record : (s : Shared) (p : ℕ) (x y : Option Signal) → (joins linux (joins linux s p x) p y).ended ≡ s.ended
joins_record s p None None = refl
joins_record s p None (Some y) = refl
joins_record s p (Some x) None = refl
joins_record s p (Some x) (Some y) = refl

lives_records : (c : Choice) (s : Shared) (child p : ℕ) (b : UserState) (stage : Stage) → Records s (lives linux c s child p b stage)
lives_records c s child p b Born = refl
lives_records c s child p b Run = runs_record s p b (next_of (maps.get s.entries p))
lives_records c s child p b (Faulting signal cause) = refl
lives_records c s child p b (Entered joined) = joins_record s p joined c.signal
lives_records c s child p b (Doing call) = answered_records s child p b call (does s child p call b) (calls_fit s child p call b)
lives_records c s child p b (Replaced call x) = refl
lives_records c s child p b (Acted call x replaced) = refl
lives_records c s child p b Finished = refl
lives_records c s child p b (Taken signal cause) = took_records s p b signal cause (takes s p b signal cause) (takes_fit s p b signal cause)
lives_records c s child p b Dropped = refl
lives_records c s child p b (Stopped signal) = wakes_record (is_continued_at (maps.get s.entries p)) s p b signal
lives_records c s child p b Released = refl
lives_records c s child p b Woken = refl

killed_records : (killed : Bool) (c : Choice) (s : Shared) (child p : ℕ) (b : UserState) (stage : Stage) → Records s (killed_or killed linux c s child p b stage)
killed_records true c s child p b stage = refl
killed_records false c s child p b stage = lives_records c s child p b stage

buried_words : (s : Shared) (p w : ℕ) → (buried s p w).ended ≡ s.ended
unfolding buried
buried_words s p w = refl

pub turn_records : (c : Choice) (s : Shared) (child p : ℕ) (task : Task UserState) → Records s (turn linux c s child p task)
turn_records c s child p (Alive b stage) = killed_records (is_killed (maps.get s.entries p)) c s child p b stage
turn_records c s child p (Dying w) = buried_words s p w
turn_records c s child p Gone = refl

-- A run.

bore_words : (v : Running Shared UserState) (e : PtraceEvent UserState) → (bore v e).shared.ended ≡ v.shared.ended
bore_words v Plain = refl
bore_words v Execed = refl
bore_words v (Forked b) = refl

bore_log : (v : Running Shared UserState) (e : PtraceEvent UserState) → (bore v e).log ≡ v.log
bore_log v Plain = refl
bore_log v Execed = refl
bore_log v (Forked b) = refl

pub turns_log_words : TurnsLogWords
turns_log_words script follow v p h =
    let o : Out Shared UserState = turn_out linux script follow v p in
    let task : Task UserState = at Gone v.tasks p in
    let items = option_to_list (item_of o) in
    bore_words (ran v p o) o.event
    ∙ turn_records (choice_at linux script (traces follow p) (λ n. entries p n v.log) task) v.shared v.child p task
    ∙ ap (λ words. fold with_end words items) h
    ∙ sym (fold-append with_end maps.empty v.log items)
    ∙ ap (fold with_end maps.empty) (sym (bore_log (ran v p o) o.event))

all_log_words : (k : KernelRun) (pids : List ℕ) → HasLoggedWords k.running → HasLoggedWords (after_all k pids).running
all_log_words k [] h = h
all_log_words k (p ∷ pids) h = all_log_words (after_turn k p) pids (turns_log_words (choice_of k.script) k.follow k.running p h)

pub boots_log_words : BootsLogWords
boots_log_words boot script pids = all_log_words (first_run boot script) pids refl

running_log_words : (script : Script) (follow : Bool) (v : Running Shared UserState) (pids : List ℕ) → HasLoggedWords v → HasLoggedWords (running linux script follow v pids)
running_log_words script follow v [] h = h
running_log_words script follow v (p ∷ pids) h = running_log_words script follow (running_turn linux script follow v p) pids (turns_log_words script follow v p h)

pub kernels_log_words : KernelsBeginAlike Shared UserState → KernelsRunAlike Shared UserState → KernelsLogWords
kernels_log_words begin run script follow boot pids =
    let s : Shared = first_shared boot.limits boot.files boot.input in
    let b : UserState = booted boot.argv boot.env in
    let is : Is (running linux script follow (first_running s b) pids) (kernel_run linux script follow (first_kernel s b) pids) = run linux script follow (first_running s b) (first_kernel s b) (begin s b) pids in
    ap (λ (s : Shared). s.ended) (sym is.shared)
    ∙ running_log_words script follow (first_running s b) pids refl
    ∙ ap logged_words is.log
