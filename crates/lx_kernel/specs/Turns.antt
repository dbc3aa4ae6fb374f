-- What a turn answers, and leaves in the table.
use Rattle.std.specs.Prelude.{◌≡◌, ℕ, suc, Bool, cond, Option}
use Rattle.std.specs.Ordering.{nat_cmp}
use Rattle.std.specs.FinMap as maps
use Rattle.std.specs.FinMap.{FinMap}
use Rattle.std.specs.Global.{Box}
use Rattle.lx_abi.specs.declared.log.Item.{Item}
use Rattle.lx_model.specs.declared.event.PtraceEvent.{PtraceEvent}
use Rattle.lx_model.specs.declared.event.PtraceEvent.TheVariants.{Plain, Execed, Forked}
use Rattle.lx_model.specs.declared.stage.Stage.TheVariants.{Born}
use Rattle.lx_model.specs.declared.stage.Task.{Task}
use Rattle.lx_model.specs.declared.stage.Task.TheVariants.{Alive}
use Rattle.lx_model.specs.Finite.{placed}
use Rattle.lx_proc.specs.declared.state.Shared.{Shared}
use Rattle.lx_proc.specs.declared.state.UserState.{UserState}
use Rattle.lx_turn.specs.Turned.{Turned, unboxed}

-- the turn's parts are in their places
pub record Turns (t : Turned) (tasks : FinMap nat_cmp (Task UserState)) (pid : ℕ) (item' : Option Item)
    (done : PtraceEvent (Box UserState)) (shared' : Shared) (tasks' : FinMap nat_cmp (Task UserState)) : Type 0 where
  pub shared_is : t.shared ≡ shared'
  pub tasks_is : placed tasks pid t.task ≡ tasks'
  pub item_is : t.item ≡ item'
  pub event_is : t.event ≡ unboxed done

-- The table of own parts, without the process where it is gone.

abbrev pub without_gone : FinMap nat_cmp (Task UserState) → ℕ → Bool → FinMap nat_cmp (Task UserState)
without_gone tasks p gone = cond gone (maps.remove tasks p) tasks

-- The table after an event, and the next pid.

abbrev pub tasks_with : FinMap nat_cmp (Task UserState) → ℕ → PtraceEvent UserState → FinMap nat_cmp (Task UserState)
tasks_with tasks child Plain = tasks
tasks_with tasks child Execed = tasks
tasks_with tasks child (Forked newborn) = maps.insert tasks child (Alive newborn Born)

abbrev pub next_child : ℕ → PtraceEvent UserState → ℕ
next_child child Plain = child
next_child child Execed = child
next_child child (Forked newborn) = suc child
