-- The mode table, row by row, on the small machine.
use Rattle.std.specs.Prelude.{◌≡◌, ℕ, ◌-◌, ◌^◌, true, List, [], ◌∷◌, map, Option, Some, None, pos}
use Rattle.lx_abi.specs.declared.log.Cause.TheVariants.{Kernel as By_kernel, Fault}
use Rattle.lx_abi.specs.declared.log.Call.{Call}
use Rattle.lx_abi.specs.declared.log.Mode.{Mode}
use Rattle.lx_abi.specs.declared.log.Mode.TheVariants as mode
use Rattle.lx_abi.specs.declared.log.Item.{Item}
use Rattle.lx_abi.specs.declared.log.Item.TheVariants.{Enter, Done, Taken as Signalled, Exit}
use Rattle.lx_abi.specs.declared.script.Choice.{Choice}
use Rattle.lx_abi.specs.Scripts.{no_choice}
use Rattle.lx_model.specs.Machine.{pc_of, a0_of}
use Rattle.lx_model.specs.Turn.{Out, turn}
use Rattle.lx_model.specs.declared.stage.Stage.{Stage}
use Rattle.lx_model.specs.declared.stage.Stage.TheVariants.{Born, Run, Faulting, Entered, Doing, Replaced, Acted, Finished, Taken, Dropped}
use Rattle.lx_model.specs.declared.stage.Task.{Task}
use Rattle.lx_model.specs.declared.stage.Task.TheVariants.{Alive, Dying, Gone}
use Rattle.lx_model.specs.Finite.{task_mode, item_of}
use Rattle.pt_model.specs.Tiny.{Pending, Shares, UserState, registers_of, with_pending, tiny, user, nothing_yet, segv, sigkill, usr1, chld}

-- the pc and a0 of a process that lives
abbrev pub result_in : Task UserState → Option (ℕ × ℕ)
result_in (Alive b stage) = Some (pc_of (registers_of b), a0_of (registers_of b))
result_in (Dying word) = None
result_in Gone = None

-- what a turn leaves: the mode and what was logged, the pc and a0, the console, and the numbers of the
-- pending signals, the last that was sent first
abbrev pub Left : Type 0
Left = (Option Mode × Option Item) × Option (ℕ × ℕ) × List ℕ × List ℕ

abbrev pub brief : Out Shares UserState → Left
brief o = (
  (task_mode o.task, item_of o),
  result_in o.task,
  o.shared.console,
  map (λ (x : Pending). x.signal.number) o.shared.pending,
)

-- what process 1 comes to by a turn from this stage, with its choice, the pending signals, and its body
abbrev pub row : Choice → List Pending → UserState → Stage → Left
row c pending b stage = brief (turn tiny c (with_pending nothing_yet pending) 2 1 (Alive b stage))

abbrev pub pends : List Pending
pends = record { pid = 1; signal = usr1; cause = By_kernel } ∷ []

abbrev pub pends_kill : List Pending
pends_kill = record { pid = 1; signal = sigkill; cause = By_kernel } ∷ []

-- a body that is at the ecall of this call
abbrev pub at_call : ℕ → ℕ → UserState
at_call n x = record {
  pc = 0;
  registers = 0 ∷ 0 ∷ 0 ∷ 0 ∷ 0 ∷ 0 ∷ 0 ∷ 0 ∷ 0 ∷ 0 ∷ x ∷ 0 ∷ 0 ∷ 0 ∷ 0 ∷ 0 ∷ 0 ∷ n ∷ [];
  program = [];
  loaded = 1;
}

abbrev pub call : ℕ → ℕ → Call
call n x = record { number = n; arguments = x ∷ 0 ∷ 0 ∷ 0 ∷ 0 ∷ 0 ∷ [] }

-- a signal that is joined
abbrev pub joins_chld : Choice
joins_chld = record { result = None; signal = Some chld }

abbrev pub replaces : Choice
replaces = record { result = Some (pos 5); signal = None }

pub record ModeRows : Type 0 where
  pub born : row no_choice [] (user []) Born ≡ ((Some mode.Run, None), Some (0, 0), [], [])
  -- Run: a signal first, then one instruction
  pub signal_first : row no_choice pends (at_call 64 7) Run
      ≡ ((Some mode.Taken, Some (Signalled 1 usr1 By_kernel)), Some (0, 7), [], [])
  pub instruction : row no_choice [] (user (64 ∷ 7 ∷ [])) Run ≡ ((Some mode.Run, None), Some (0, 7), [], [])
  pub ecall : row no_choice [] (at_call 64 7) Run
      ≡ ((Some mode.Entered, Some (Enter 1 (call 64 7))), Some (0, 7), [], [])
  pub fault : row no_choice [] (user (999 ∷ 16 ∷ [])) Run ≡ ((Some mode.Faulting, None), Some (0, 0), [], [])
  pub faulting : row no_choice [] (user []) (Faulting segv (Fault 1 16))
      ≡ ((Some mode.Taken, Some (Signalled 1 segv (Fault 1 16))), Some (0, 0), [], [])
  pub entered : row no_choice [] (at_call 64 7) (Entered None) ≡ ((Some mode.Doing, None), Some (0, 7), [], [])
  pub entered_replaced : row replaces [] (at_call 64 7) (Entered None) ≡ ((Some mode.Doing, None), Some (0, 7), [], [])
  -- the tracer's signal is made pending before the script's
  pub entered_joined : row joins_chld [] (at_call 64 7) (Entered (Some usr1))
      ≡ ((Some mode.Doing, None), Some (0, 7), [], 17 ∷ 10 ∷ [])
  pub refused : row no_choice [] (at_call 500 7) (Doing (call 500 7))
      ≡ ((Some mode.Acted, None), Some (4, 2 ^ 64 - 38), [], [])
  pub returns : row no_choice [] (at_call 64 7) (Doing (call 64 7)) ≡ ((Some mode.Acted, None), Some (4, 1), 7 ∷ [], [])
  pub bears : row no_choice [] (at_call 220 17) (Doing (call 220 17)) ≡ ((Some mode.Acted, None), Some (4, 2), [], [])
  pub execs : row no_choice [] (at_call 221 0) (Doing (call 221 0)) ≡ ((Some mode.Acted, None), Some (4, 0), [], [])
  pub blocks : row no_choice [] (at_call 63 0) (Doing (call 63 0)) ≡ ((Some mode.Doing, None), Some (0, 0), [], [])
  pub ends : row no_choice [] (at_call 94 3) (Doing (call 94 3))
      ≡ ((Some mode.Dying, Some (Exit 1 768 mode.Doing)), None, [], [])
  -- a replaced call isn't done: this one would end the process
  pub replaced : row no_choice [] (at_call 94 3) (Replaced (call 94 3) 5)
      ≡ ((Some mode.Acted, None), Some (4, 5), [], [])
  pub acted : row no_choice [] (at_call 64 1) (Acted (call 64 7) 1 true)
      ≡ ((Some mode.Finished, Some (Done 1 (call 64 7) 1 true)), Some (0, 1), [], [])
  pub finished : row no_choice [] (user []) Finished ≡ ((Some mode.Run, None), Some (0, 0), [], [])
  pub taken_ignored : row no_choice [] (user []) (Taken chld By_kernel) ≡ ((Some mode.Run, None), Some (0, 0), [], [])
  pub taken_ends : row no_choice [] (user []) (Taken usr1 By_kernel)
      ≡ ((Some mode.Dying, Some (Exit 1 10 mode.Taken)), None, [], [])
  pub dropped : row no_choice [] (user []) Dropped ≡ ((Some mode.Run, None), Some (0, 0), [], [])
  -- SIGKILL before all
  pub killed_run : row no_choice pends_kill (at_call 64 7) Run
      ≡ ((Some mode.Dying, Some (Exit 1 9 mode.Run)), None, [], 9 ∷ [])
  pub killed_entered : row replaces pends_kill (at_call 64 7) (Entered None)
      ≡ ((Some mode.Dying, Some (Exit 1 9 mode.Entered)), None, [], 9 ∷ [])
  pub killed_taken : row no_choice pends_kill (user []) (Taken usr1 By_kernel)
      ≡ ((Some mode.Dying, Some (Exit 1 9 mode.Taken)), None, [], 9 ∷ [])
  pub dying : brief (turn tiny no_choice nothing_yet 2 1 (Dying 768)) ≡ ((None, None), None, [], [])
  pub gone : brief (turn tiny no_choice nothing_yet 2 1 Gone) ≡ ((None, None), None, [], [])
