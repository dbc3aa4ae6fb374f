-- A turn of a process runs an instruction or changes its mode exactly where the process doesn't wait.
use Rattle.std.proofs.Common.{◌≡◌, ◌≢◌, ◌⊎◌, ℕ, Bool, true, false, Option, Some, None, refl, inl, inr, sym, subst, ◌∙◌}
use Rattle.std.specs.Prelude.{◌||◌, IsTrue, not, ◌↔◌}
use Rattle.std.specs.FinMap as maps
use Rattle.lx_abi.specs.declared.log.Call.{Call}
use Rattle.lx_abi.specs.declared.log.Cause.{Cause}
use Rattle.lx_abi.specs.declared.signal.Signal.{Signal}
use Rattle.lx_abi.specs.declared.log.Mode.TheVariants as mode
use Rattle.lx_abi.specs.declared.script.Choice.{Choice}
use Rattle.lx_model.specs.Machine.{Answer, Refused, Returns, Jumps, Execs, Bears, Blocks, Ends, Took, Passes, Stops, Kills}
use Rattle.lx_model.specs.Turn.{turn, killed_or, lives, answered, halts, took, wakes, chosen, result_word, stage_mode}
use Rattle.lx_model.specs.declared.stage.Stage.{Stage}
use Rattle.lx_model.specs.declared.stage.Stage.TheVariants.{Born, Run, Faulting, Entered, Doing, Replaced, Acted, Finished, Taken, Dropped, Stopped, Released, Woken}
use Rattle.lx_model.specs.declared.stage.Task.{Task}
use Rattle.lx_model.specs.declared.stage.Task.TheVariants.{Alive, Dying, Gone}
use Rattle.lx_model.specs.Finite.{task_mode, at}
use Rattle.lx_model.specs.Kernel.{traces, choice_at}
use Rattle.lx_abi.specs.Scripts.{choice_of}
use Rattle.lx_abi.specs.Log.{entries}
use Rattle.lx_proc.specs.declared.state.Shared.{Shared}
use Rattle.lx_proc.specs.declared.state.UserState.{UserState}
use Rattle.lx_proc.specs.Answers.{is_blocked}
use Rattle.lx_pcalls.specs.Stops.{is_continued_at}
use Rattle.lx_pcalls.specs.Taking.{takes}
use Rattle.lx_kernel.specs.Blocking.{would_block, waits, can_turn}
use Rattle.lx_kernel.specs.Scheduling.{can_turn_in}
use Rattle.lx_turn.specs.Calls.{does}
use Rattle.lx_turn.specs.Linux.{linux}
use Rattle.lx_turn.specs.Reactions.{is_killed}
use Rattle.lx_kernel.specs.Runs.{Run as KernelRun, is_able_in}
use Rattle.lx_kernel.proofs.Waiting.{does_waits}

-- where it waits, its process stays in Doing, and else it leaves it
answered_moves : (s : Shared) (child p : ℕ) (b : UserState) (call : Call) (a : Answer Shared UserState) → is_blocked a ≡ false → task_mode (answered linux s child p b call a).task ≢ Some mode.Doing
answered_moves s child p b call (Refused e) h = λ e. cc
answered_moves s child p b call (Returns t c x) h = λ e. cc
answered_moves s child p b call (Jumps t c) h = λ e. cc
answered_moves s child p b call (Execs t c) h = λ e. cc
answered_moves s child p b call (Bears t c born) h = λ e. cc
answered_moves s child p b call Blocks h = absurd (cc h)
answered_moves s child p b call (Ends w) h = λ e. cc

answered_waits : (s : Shared) (child p : ℕ) (b : UserState) (call : Call) (a : Answer Shared UserState) → is_blocked a ≡ true → task_mode (answered linux s child p b call a).task ≡ Some mode.Doing
answered_waits s child p b call (Refused e) h = absurd (cc h)
answered_waits s child p b call (Returns t c x) h = absurd (cc h)
answered_waits s child p b call (Jumps t c) h = absurd (cc h)
answered_waits s child p b call (Execs t c) h = absurd (cc h)
answered_waits s child p b call (Bears t c born) h = absurd (cc h)
answered_waits s child p b call Blocks h = refl
answered_waits s child p b call (Ends w) h = absurd (cc h)

chosen_moves : (b : UserState) (call : Call) (o : Option ℕ) → task_mode (Alive b (chosen call o)) ≢ Some mode.Entered
chosen_moves b call None = λ e. cc
chosen_moves b call (Some x) = λ e. cc

halts_move : (continued : Bool) (s : Shared) (p : ℕ) (b : UserState) (signal : Signal) → task_mode (halts continued linux s p b signal).task ≢ Some mode.Taken
halts_move true s p b signal = λ e. cc
halts_move false s p b signal = λ e. cc

took_moves : (s : Shared) (p : ℕ) (b : UserState) (signal : Signal) (cause : Cause) (t : Took Shared UserState) → task_mode (took linux s p b signal cause t).task ≢ Some mode.Taken
took_moves s p b signal cause (Passes t c) = λ e. cc
took_moves s p b signal cause Stops = halts_move (is_continued_at (maps.get s.entries p)) s p b signal
took_moves s p b signal cause (Kills w) = λ e. cc

abbrev IsMoved : Choice → Shared → ℕ → ℕ → UserState → Stage → Task UserState → Type 0
IsMoved c s child p b stage after = (task_mode (Alive b stage) ≡ Some mode.Run) ⊎ (task_mode after ≢ task_mode (Alive b stage))

-- a turn of a process that waits changes nothing, and of one that doesn't
abbrev Turns : Bool → Choice → Shared → ℕ → ℕ → UserState → Stage → Task UserState → Type 0
Turns false c s child p b stage after = IsMoved c s child p b stage after
Turns true c s child p b stage after = IsMoved c s child p b stage after → ⊥

doing_turns : (c : Choice) (s : Shared) (child p : ℕ) (b : UserState) (call : Call) (w : Bool) → would_block s p call b ≡ w → Turns w c s child p b (Doing call) (answered linux s child p b call (does s child p call b)).task
doing_turns c s child p b call false is = inr (answered_moves s child p b call (does s child p call b) (does_waits s child p call b ∙ is))
doing_turns c s child p b call true is = λ h. elim h [ inl e ↦ absurd (cc e) | inr ne ↦ absurd (ne (answered_waits s child p b call (does s child p call b) (does_waits s child p call b ∙ is))) ]

stopped_turns : (c : Choice) (s : Shared) (child p : ℕ) (b : UserState) (signal : Signal) (continued : Bool) → Turns (not continued) c s child p b (Stopped signal) (wakes continued linux s p b signal).task
stopped_turns c s child p b signal true = inr (λ e. cc)
stopped_turns c s child p b signal false = λ h. elim h [ inl e ↦ absurd (cc e) | inr ne ↦ absurd (ne refl) ]

lives_turns : (c : Choice) (s : Shared) (child p : ℕ) (b : UserState) (stage : Stage) → Turns (waits s p b stage) c s child p b stage (lives linux c s child p b stage).task
lives_turns c s child p b Born = inr (λ e. cc)
lives_turns c s child p b Run = inl refl
lives_turns c s child p b (Faulting signal cause) = inr (λ e. cc)
lives_turns c s child p b (Entered joined) = inr (chosen_moves b _ (result_word c))
lives_turns c s child p b (Doing call) = doing_turns c s child p b call (would_block s p call b) refl
lives_turns c s child p b (Replaced call x) = inr (λ e. cc)
lives_turns c s child p b (Acted call x replaced) = inr (λ e. cc)
lives_turns c s child p b Finished = inr (λ e. cc)
lives_turns c s child p b (Taken signal cause) = inr (took_moves s p b signal cause (takes s p b signal cause))
lives_turns c s child p b Dropped = inr (λ e. cc)
lives_turns c s child p b (Stopped signal) = stopped_turns c s child p b signal (is_continued_at (maps.get s.entries p))
lives_turns c s child p b Released = inr (λ e. cc)
lives_turns c s child p b Woken = inr (λ e. cc)

not_dying : (stage : Stage) → Some mode.Dying ≢ Some (stage_mode stage)
not_dying Born = λ e. cc
not_dying Run = λ e. cc
not_dying (Faulting signal cause) = λ e. cc
not_dying (Entered joined) = λ e. cc
not_dying (Doing call) = λ e. cc
not_dying (Replaced call x) = λ e. cc
not_dying (Acted call x replaced) = λ e. cc
not_dying Finished = λ e. cc
not_dying (Taken signal cause) = λ e. cc
not_dying Dropped = λ e. cc
not_dying (Stopped signal) = λ e. cc
not_dying Released = λ e. cc
not_dying Woken = λ e. cc

-- a turn changes something exactly where it can
abbrev Moves : Bool → Type 0 → Type 0
Moves can moved = (IsTrue can → moved) × (moved → IsTrue can)

waits_move : (w : Bool) (c : Choice) (s : Shared) (child p : ℕ) (b : UserState) (stage : Stage) (after : Task UserState) → Turns w c s child p b stage after → Moves (not w) (IsMoved c s child p b stage after)
waits_move false c s child p b stage after h = (λ e. h, λ m. refl)
waits_move true c s child p b stage after h = (λ e. absurd (cc e), λ m. absurd (h m))

or_true : (b : Bool) → (b || true) ≡ true
or_true true = refl
or_true false = refl

or_false : (b : Bool) → (b || false) ≡ b
or_false true = refl
or_false false = refl

killed_moves : (killed : Bool) (c : Choice) (s : Shared) (child p : ℕ) (b : UserState) (stage : Stage) → Moves (not (waits s p b stage) || killed) (IsMoved c s child p b stage (killed_or killed linux c s child p b stage).task)
killed_moves true c s child p b stage = (λ e. inr (not_dying stage), λ m. or_true (not (waits s p b stage)))
killed_moves false c s child p b stage =
    subst (λ can. Moves can (IsMoved c s child p b stage (lives linux c s child p b stage).task)) (sym (or_false (not (waits s p b stage))))
    (waits_move (waits s p b stage) c s child p b stage (lives linux c s child p b stage).task (lives_turns c s child p b stage))

module _ (k : KernelRun) (pid : ℕ) where
  abbrev IsAbleAs : Task UserState → Type 0
  IsAbleAs task = (task_mode task ≡ Some mode.Run) ⊎ (task_mode (turn linux (choice_at linux (choice_of k.script) (traces k.follow pid) (λ n. entries pid n k.running.log) task) k.running.shared k.running.child pid task).task ≢ task_mode task)

  able_as : (task : Task UserState) → IsTrue (can_turn k.running.shared pid task) ↔ IsAbleAs task
  unfolding can_turn
  able_as (Alive b stage) = killed_moves (is_killed (maps.get k.running.shared.entries pid)) _ k.running.shared k.running.child pid b stage
  able_as (Dying w) = (λ e. inr (λ e. cc), λ h. refl)
  able_as Gone = (λ e. absurd (cc e), λ h. elim h [ inl e ↦ absurd (cc e) | inr ne ↦ absurd (ne refl) ])

  -- a process is able exactly where a turn of it does something
  pub able_where_turns : IsTrue (can_turn_in k.running.shared k.running.tasks pid) ↔ is_able_in k pid
  able_where_turns = able_as (at Gone k.running.tasks pid)
