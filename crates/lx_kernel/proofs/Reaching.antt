-- One process's own part changed in the table.
use Rattle.std.proofs.Common.{◌≡◌, ℕ, Bool, false, Option, Some, None, refl, ap, sym, ◌∙◌}
use Rattle.std.specs.Prelude.{is_some, unwrap_or}
use Rattle.std.specs.Option.{option_map}
use Rattle.std.specs.Ordering.{nat_cmp}
use Rattle.std.specs.FinMap as maps
use Rattle.std.specs.FinMap.{FinMap}
use Rattle.lx_model.specs.Machine.{Regs}
use Rattle.lx_model.specs.Finite.{at}
use Rattle.lx_model.specs.declared.stage.Stage.{Stage}
use Rattle.lx_model.specs.declared.stage.Task.{Task}
use Rattle.lx_model.specs.declared.stage.Task.TheVariants.{Alive, Dying, Gone}
use Rattle.lx_proc.specs.declared.state.UserState.{UserState}
use Rattle.lx_turn.specs.Turned.{is_gone}
use Rattle.lx_kernel.specs.Runs.{Run}
use Rattle.lx_kernel.specs.Tracing.{changed, with_regs, with_change, with_part, with_part_at, IsPart}
use Rattle.lx_kernel.specs.declared.tracing.Change.{Change}
use Rattle.lx_kernel.proofs.Placing.{placed_there}
use Rattle.lx_kernel.proofs.Placed.{put_same}

abbrev Tasks : Type 0
Tasks = FinMap nat_cmp (Task UserState)

-- what it is changed to isn't gone
abbrev Stays : Option (Task UserState) → Type 0
Stays None = Unit {0}
Stays (Some task) = is_gone task ≡ false

staged : (b : UserState) (s : Option Stage) → Stays (option_map (λ s. Alive b s) s)
staged b None = tt
staged b (Some s) = refl

pub regs_stay : (r : Regs) (task : Task UserState) → Stays (with_regs r task)
regs_stay r (Alive b stage) = refl
regs_stay r (Dying w) = tt
regs_stay r Gone = tt

pub changed_stays : (c : Change) (task : Task UserState) → Stays (with_change c task)
changed_stays c (Alive b stage) = staged b (changed c stage)
changed_stays c (Dying w) = tt
changed_stays c Gone = tt

-- where the process stands, its part is put back
put_back : (tasks : Tasks) (p : ℕ) (task task' : Task UserState) (r : Bool) (x : Option (Task UserState)) → Stays x → IsPart x task task' r → maps.get tasks p ≡ Some task → maps.insert tasks p task' ≡ with_part_at tasks p x
put_back tasks p task task' r None stays part there = ap (maps.insert tasks p) part.0 ∙ put_same tasks p task there
put_back tasks p task task' r (Some other) stays part there = ap (maps.insert tasks p) part.0 ∙ sym (placed_there tasks p other stays)

is_there : (task task' : Task UserState) (r : Bool) (x : Option (Task UserState)) → IsPart x task task' r → r ≡ is_some x
is_there task task' r None part = part.1
is_there task task' r (Some other) part = part.1

module _ (change : Task UserState → Option (Task UserState)) (stays : (task : Task UserState) → Stays (change task)) (tasks : Tasks) (p : ℕ) (task task' : Task UserState) (r : Bool) (there : Some task ≡ maps.get tasks p) (part : IsPart (change task) task task' r) where
  here : task ≡ at Gone tasks p
  here = ap (λ o. unwrap_or o Gone) there

  pub part_back : maps.insert tasks p task' ≡ with_part_at tasks p (change (at Gone tasks p))
  part_back = put_back tasks p task task' r (change task) (stays task) part (sym there) ∙ ap (λ o. with_part_at tasks p (change o)) here

  pub changed_there : r ≡ is_some (change (at Gone tasks p))
  changed_there = is_there task task' r (change task) part ∙ ap (λ o. is_some (change o)) here

-- where no process stands, nothing is changed
pub nobody_there : (change : Task UserState → Option (Task UserState)) (tasks : Tasks) (p : ℕ) → None ≡ maps.get tasks p → change Gone ≡ change (at Gone tasks p)
nobody_there change tasks p none = ap (λ o. change (unwrap_or o Gone)) none

-- the kernel with the changed table
pub whole : (k : Run) (p : ℕ) (x : Option (Task UserState)) → record k { running = record k.running { tasks = with_part_at k.running.tasks p x } } ≡ with_part k p x
whole k p None = refl
whole k p (Some task) = refl
