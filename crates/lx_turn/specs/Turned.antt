-- What the parts of a turn answer, beside what they leave in the parts that they are lent.
use Rattle.std.specs.Prelude.{◌≡◌, ℕ, ◌≤◌, Bool, true, false, Option, Some}
use Rattle.std.specs.Global.{Box}
use Rattle.std.specs.declared.ops.ControlFlow.{ControlFlow}
use Rattle.std.specs.declared.ops.ControlFlow.TheVariants.{Continue, Break}
use Rattle.lx_abi.specs.declared.log.Item.{Item}
use Rattle.lx_abi.specs.declared.log.Item.TheVariants as item
use Rattle.lx_model.specs.Events.{event_map}
use Rattle.lx_model.specs.declared.event.PtraceEvent.{PtraceEvent}
use Rattle.lx_model.specs.declared.event.PtraceEvent.TheVariants.{Plain, Execed, Forked}
use Rattle.lx_model.specs.Turn.{stage_mode, Out}
use Rattle.lx_model.specs.declared.stage.Stage.{Stage}
use Rattle.lx_model.specs.declared.stage.Task.{Task}
use Rattle.lx_model.specs.declared.stage.Task.TheVariants.{Alive, Dying, Gone}
use Rattle.lx_model.specs.Finite.{item_of}
use Rattle.lx_proc.specs.declared.state.Shared.{Shared}
use Rattle.lx_proc.specs.declared.state.UserState.{UserState}
use Rattle.lx_pcalls.specs.Ends as end

-- A turn's out, without what its process could read.

pub record Turned : Type 0 where
  pub shared : Shared
  pub task : Task UserState
  pub item : Option Item
  pub event : PtraceEvent UserState

abbrev pub turned : Out Shared UserState → Turned
turned o = record { shared = o.shared; task = o.task; item = item_of o; event = o.event }

-- a child's body as the code holds it
abbrev pub unboxed : PtraceEvent (Box UserState) → PtraceEvent UserState
unboxed e = event_map (λ b. b.value) e

-- the end of a process that leaves a stage
abbrev pub ended : Shared → ℕ → ℕ → Stage → Turned
ended s p w stage = record {
  shared = end.dies s p w;
  task = Dying w;
  item = Some (item.Exit p w (stage_mode stage));
  event = Plain;
}

-- the process goes on as it stands now, and nothing was done beside
abbrev pub goes_on : Shared → UserState → Stage → Option Item → Turned
goes_on s b next item = record { shared = s; task = Alive b next; item = item; event = Plain }

-- a process goes on, and this was done beside, or it ends with a wait word
abbrev pub Course : Type 0
Course = ControlFlow ℕ (PtraceEvent (Box UserState))

-- what the turn of a stage comes to, which leaves this stage and this item
abbrev pub turned_by : Course → Shared → UserState → ℕ → Stage → Stage → Option Item → Turned
turned_by (Continue done) s b p stage next item = record {
  shared = s;
  task = Alive b next;
  item = item;
  event = unboxed done;
}
turned_by (Break w) s b p stage next item = ended s p w stage

-- a process that ends leaves what is shared until then
abbrev pub EndsSame : Course → Shared → Shared → Type 0
EndsSame (Continue done) s s' = Unit {0}
EndsSame (Break w) s s' = s' ≡ s

abbrev pub is_gone : Task UserState → Bool
is_gone (Alive b stage) = false
is_gone (Dying w) = false
is_gone Gone = true

-- a child is born under a pid that is left, up to the last one
abbrev pub IsLeft : {B : Type 0} → ℕ → PtraceEvent B → ℕ → Type 0
IsLeft last_pid Plain child = Unit {0}
IsLeft last_pid Execed child = Unit {0}
IsLeft last_pid (Forked newborn) child = child ≤ last_pid

-- a child was born
abbrev pub IsBirth : {B : Type 0} → PtraceEvent B → Type 0
IsBirth Plain = ⊥
IsBirth Execed = ⊥
IsBirth (Forked newborn) = Unit {0}
