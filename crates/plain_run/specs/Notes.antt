-- A log with what its processes could read when each item was logged.
use Rattle.std.specs.Prelude.{◌≡◌, ℕ, List, [], ◌∷◌, ◌++◌, Option, Some, None, zero, suc}
use Rattle.std.specs.Option.{option_to_list}
use Rattle.lx_abi.specs.declared.log.Item.{Item}
use Rattle.lx_abi.specs.Log.{Note, Noted, pid_of}
use Rattle.lx_model.specs.Machine.{Machine}
use Rattle.lx_model.specs.Turn.{note_of, no_note}
use Rattle.lx_model.specs.declared.stage.Task.{Task}
use Rattle.lx_model.specs.declared.stage.Task.TheVariants.{Alive, Dying, Gone}
use Rattle.lx_turn.specs.Linux.{linux}
use Rattle.lx_kernel.specs.Laws.{after_all}
use Rattle.lx_kernel.specs.Runs.{Run, turn_in, after_turn}
use Rattle.lx_kernel.specs.Tracing.{task_in}
use Rattle.pt_schedule.specs.declared.schedule.Schedule.{Schedule}
use Rattle.plain_run.specs.Runs.{IsRun, RunsTo}

-- what a process can read where it stands; nothing once it has ended
abbrev pub note_at : {S B : Type 0} → Machine S B → Task B → Note
note_at m (Alive b stage) = note_of m b
note_at m (Dying w) = no_note
note_at m Gone = no_note

-- what a kernel has logged last, with what its process can read there
abbrev pub noted_in : Run → Item → Noted
noted_in k item = record { item = item; note = note_at linux (task_in k (pid_of item)) }

-- some items and this one
abbrev pub with_item : Run → List Noted → Option Item → List Noted
with_item k notes None = notes
with_item k notes (Some item) = notes ++ noted_in k item ∷ []

-- what turns of these processes log, each item with what its process could read then
unfoldable pub notes_of : Run → List ℕ → List Noted
notes_of k [] = []
notes_of k (p ∷ ps) = option_to_list (turn_in k p).item ++ notes_of (after_turn k p) ps

-- so many turns of a process, and then these
abbrev pub turns_of : ℕ → ℕ → List ℕ → List ℕ
turns_of zero p ps = ps
turns_of (suc n) p ps = p ∷ turns_of n p ps

-- What watchers were told of turns that lead from k and s to k' and s'. What a watcher stands in to the notes before
-- (before), it stands in to those and the turns' after (after).
pub record IsNoted (k : Run) (s : Schedule) (before : List Noted → Type 0) (k' : Run) (s' : Schedule)
    (after : List Noted → Type 0) : Type 0 where
  pub pids : List ℕ
  pub lead : k' ≡ after_all k pids
  pub runs : (z : Run) (later : List ℕ) → IsRun k' s' later z → IsRun k s (pids ++ later) z
  pub notes : (ns : List Noted) → before ns → after (ns ++ notes_of k pids)

-- so it is of a turn of this process, and of turns that come next by the schedule
pub record IsTurned (k : Run) (pid : ℕ) (s : Schedule) (before : List Noted → Type 0) (k' : Run) (s' : Schedule)
    (after : List Noted → Type 0) : Type 0 where
  pub pids : List ℕ
  pub lead : k' ≡ after_all (after_turn k pid) pids
  pub runs : (z : Run) (later : List ℕ) → IsRun k' s' later z → IsRun (after_turn k pid) s (pids ++ later) z
  pub notes : (ns : List Noted) → before ns → after (ns ++ notes_of k (pid ∷ pids))

-- and of a whole run
pub record RunsNoted (k : Run) (s : Schedule) (z : Run) (before after : List Noted → Type 0) : Type 0 where
  pub to : RunsTo k s z
  pub notes : (ns : List Noted) → before ns → after (ns ++ notes_of k to.pids)
