-- Where a search for an able process of the kernel goes on.
use Rattle.std.proofs.Common.{◌≡◌, ℕ, ◌<◌, ◌≤◌, Bool, true, false, Option, Some, None, refl, sym, arith}
use Rattle.std.specs.Prelude.{not, ◌||◌}
use Rattle.lx_model.specs.Finite.{at, task_mode}
use Rattle.lx_model.specs.declared.stage.Task.TheVariants.{Gone}
use Rattle.lx_kernel.specs.Runs.{Run, turn_in, is_able_in}
use Rattle.lx_kernel.specs.Scheduling.{IsNextOf}
use Rattle.pt_schedule.specs.Cycle.{IsNextPlace}
use Rattle.pt_schedule.specs.Modes.{is_run, same_mode, moves}
use Rattle.pt_schedule.specs.Untraced.{readiness_of}
use Rattle.pt_schedule.proofs.Modes.{to_moves}

unless : (b : Bool) → (b ≡ true → ⊥) → b ≡ false
unless true h = absurd (h refl)
unless false h = refl

able_so : (k : Run) (n : ℕ) → (readiness_of k).able n ≡ true → is_able_in k n
able_so k n h =
    let x = task_mode (at Gone k.running.tasks n) in
    let y = task_mode (turn_in k n).task in
    to_moves x y (is_run x) (same_mode x y) refl refl h

-- none is able where no process is next, or the next one is no later
pub no_place : (k : Run) (p : ℕ) → IsNextOf k p None → IsNextPlace (readiness_of k).able p None
no_place k p h n l = unless ((readiness_of k).able n) (λ e. h n (able_so k n e))

pub place_before : (k : Run) (p q : ℕ) → q ≤ p → IsNextOf k p (Some q) → IsNextPlace (readiness_of k).able p None
place_before k p q le h n l = unless ((readiness_of k).able n) (λ e. absurd (omega (arith, le, (h.above n l (able_so k n e)).0)))

pub place_after : (k : Run) (p q : ℕ) → p < q → IsNextOf k p (Some q) → IsNextPlace (readiness_of k).able p (Some q)
place_after k p q lt h = (lt, λ n l m. unless ((readiness_of k).able n) (λ e. absurd (omega (arith, m, (h.above n l (able_so k n e)).1))))
