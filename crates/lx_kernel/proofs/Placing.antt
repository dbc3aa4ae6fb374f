-- The table of processes' own parts after a turn.
use Rattle.std.proofs.Common.{◌≡◌, ℕ, Bool, true, false, Option, Some, None, refl, ap, sym, subst, ◌∙◌, unwrap_or}
use Rattle.std.specs.Ordering.{nat_cmp}
use Rattle.lx_kernel.proofs.Placed.{get_put, get_left, remove-insert, remove_absent}
use Rattle.std.specs.FinMap as maps
use Rattle.std.specs.FinMap.{FinMap}
use Rattle.std.specs.Global.{Box}
use Rattle.lx_abi.specs.declared.log.Item.{Item}
use Rattle.lx_model.specs.declared.stage.Task.{Task}
use Rattle.lx_model.specs.declared.stage.Task.TheVariants.{Alive, Dying, Gone}
use Rattle.lx_model.specs.Finite.{at, placed}
use Rattle.lx_proc.specs.declared.state.Shared.{Shared}
use Rattle.lx_proc.specs.declared.state.UserState.{UserState}
use Rattle.lx_turn.specs.Turned.{Turned, is_gone, unboxed}
use Rattle.lx_kernel.specs.Turns.{without_gone}
use Rattle.lx_kernel.specs.Turns.{Turns}
use Rattle.lx_model.specs.declared.event.PtraceEvent.{PtraceEvent}
use Rattle.lx_model.specs.declared.event.PtraceEvent.TheVariants.{Plain}

abbrev Tasks : Type 0
Tasks = FinMap nat_cmp (Task UserState)

placed_gone : (m : Tasks) (p : ℕ) (task : Task UserState) → is_gone task ≡ true → placed m p task ≡ maps.remove (maps.insert m p task) p
placed_gone m p (Alive b stage) e = absurd (cc e)
placed_gone m p (Dying w) e = absurd (cc e)
placed_gone m p Gone e = sym (remove-insert m p Gone)

pub placed_there : (m : Tasks) (p : ℕ) (task : Task UserState) → is_gone task ≡ false → placed m p task ≡ maps.insert m p task
placed_there m p (Alive b stage) e = refl
placed_there m p (Dying w) e = refl
placed_there m p Gone e = absurd (cc e)

-- a part that was changed in its place
pub placed_by : (m : Tasks) (p : ℕ) (task : Task UserState) (gone : Bool) → is_gone task ≡ gone → placed m p task ≡ without_gone (maps.insert m p task) p gone
placed_by m p task true e = placed_gone m p task e
placed_by m p task false e = placed_there m p task e

-- the turn of a process with a part of its own
pub somebody : (g : Task UserState → Turned) (tasks tasks' : Tasks) (p : ℕ) (task task' : Task UserState) (item : Option Item) (done : PtraceEvent (Box UserState)) (s : Shared)
    → Some task ≡ maps.get tasks p → g task ≡ record { shared = s; task = task'; item = item; event = unboxed done } → placed tasks p task' ≡ tasks' → Turns (g (at Gone tasks p)) tasks p item done s tasks'
somebody g tasks tasks' p task task' item done s there is placed_is =
    let at_is : at Gone tasks p ≡ task = ap (λ o. unwrap_or o Gone) (sym there) in
    subst (λ t. Turns t tasks p item done s tasks') (sym (ap g at_is ∙ is)) (record { shared_is = refl; tasks_is = placed_is; item_is = refl; event_is = refl })

-- and of one without
pub nobody : (g : Task UserState → Turned) (tasks tasks' : Tasks) (p : ℕ) (item : Option Item) (done : PtraceEvent (Box UserState)) (s : Shared)
    → None ≡ maps.get tasks p → g Gone ≡ record { shared = s; task = Gone; item = None; event = unboxed Plain } → tasks' ≡ tasks → item ≡ None → done ≡ Plain → Turns (g (at Gone tasks p)) tasks p item done s tasks'
nobody g tasks tasks' p item done s none is same no_item plain =
    let at_is : at Gone tasks p ≡ Gone = ap (λ o. unwrap_or o Gone) (sym none) in
    subst (λ t. Turns t tasks p item done s tasks') (sym (ap g at_is ∙ is)) (record { shared_is = refl; tasks_is = remove_absent tasks p (sym none) ∙ sym same; item_is = sym no_item; event_is = ap unboxed (sym plain) })

-- what a table has at a part that was put in its place
pub at_placed : (m : Tasks) (p : ℕ) (task : Task UserState) → at Gone (placed m p task) p ≡ task
at_placed m p (Alive b stage) = ap (λ o. unwrap_or o Gone) (get_put m p (Alive b stage))
at_placed m p (Dying w) = ap (λ o. unwrap_or o Gone) (get_put m p (Dying w))
at_placed m p Gone = ap (λ o. unwrap_or o Gone) (get_left m p)
