-- Where a process stands where its call fails.
use Rattle.std.proofs.Common.{◌≡◌, Bool, true, false, ℕ, Some, cond, ◌&&◌, ◌||◌, refl, ap, ◌∙◌}
use Rattle.std.specs.Prelude.{◌==◌}
use Rattle.lx_abi.specs.declared.log.Mode.{Mode}
use Rattle.lx_abi.specs.declared.log.Mode.TheVariants as mode
use Rattle.lx_abi.specs.Log.{entries}
use Rattle.lx_kernel.specs.Advances.{is_under_way, GoesOn}
use Rattle.lx_kernel.specs.Runs.{Run, mode_in}
use Rattle.lx_kernel.specs.Tracing.{task_in, regs_of}
use Rattle.sweep_faults.specs.declared.faults.Fault.{Fault}
use Rattle.sweep_rows.specs.declared.kinds.Kind.{Kind}
use Rattle.sweep_rows.specs.declared.kinds.Kind.TheVariants as kind
use Rattle.sweep_faults.specs.Faults.{asks_for, has_begun, has_entered, is_at, is_due, is_ended, is_entered, is_world, was_last}

-- A process that goes on by itself has entered no call, and ended none

no_entry : (m : Mode) → is_under_way m ≡ true → is_entered (Some m) ≡ false
no_entry mode.Born h = refl
no_entry mode.Run h = refl
no_entry mode.Faulting h = refl
no_entry mode.Entered h = absurd (cc h)
no_entry mode.Doing h = refl
no_entry mode.Acted h = refl
no_entry mode.Finished h = refl
no_entry mode.Taken h = refl
no_entry mode.Stopped h = refl
no_entry mode.Woken h = refl
no_entry mode.Dying h = refl
no_entry mode.Zombie h = refl

no_end : (m : Mode) → is_under_way m ≡ true → is_ended (Some m) ≡ false
no_end mode.Born h = refl
no_end mode.Run h = refl
no_end mode.Faulting h = refl
no_end mode.Entered h = refl
no_end mode.Doing h = refl
no_end mode.Acted h = refl
no_end mode.Finished h = absurd (cc h)
no_end mode.Taken h = refl
no_end mode.Stopped h = refl
no_end mode.Woken h = refl
no_end mode.Dying h = refl
no_end mode.Zombie h = refl

none_at : (a b : Bool) → (a && (b && false)) ≡ false
none_at true true = refl
none_at true false = refl
none_at false b = refl

not_entered : (call : ℕ) (k : Run) (p : ℕ) → GoesOn k p → has_entered call k p ≡ false
not_entered call k p on =
    ap (λ b. b && asks_for call (regs_of (task_in k p))) (ap is_entered on.1.1.0 ∙ no_entry on.1.0 on.1.1.1)

not_ended : (last : Bool) (k : Run) (p : ℕ) → GoesOn k p → (is_ended (mode_in k p) && last) ≡ false
not_ended last k p on = ap (λ b. b && last) (ap is_ended on.1.1.0 ∙ no_end on.1.0 on.1.1.1)

neither : (a b : Bool) → a ≡ false → b ≡ false → (a || b) ≡ false
neither a b e h = ap (λ x. x || b) e ∙ h

not_due : (x : Kind) (call : ℕ) (k : Run) (p : ℕ) → GoesOn k p → is_due x call k p ≡ false
not_due (kind.Undone error) call k p on = not_entered call k p on
not_due (kind.Done error) call k p on = not_ended (was_last p call false k.running.log) k p on
not_due (kind.Short count) call k p on =
    neither (has_entered call k p) (is_ended (mode_in k p) && was_last p call false k.running.log) (not_entered call k p on)
    (not_ended (was_last p call false k.running.log) k p on)
not_due kind.Killed call k p on = not_entered call k p on
not_due kind.Stop call k p on = not_entered call k p on
not_due (kind.World w) call k p on = ap is_entered on.1.1.0 ∙ no_entry on.1.0 on.1.1.1

and_false : (b : Bool) → (b && false) ≡ false
and_false true = refl
and_false false = refl

pub not_at : (f : Fault) (k : Run) (p : ℕ) → GoesOn k p → is_at f k p ≡ false
unfolding is_at
not_at f k p on = of (is_world f.kind)
  where
    of : (b : Bool) → cond b (has_begun f k.running.log && is_due f.kind f.call k p) ((p == f.pid) && ((entries f.pid f.call k.running.log == f.n) && is_due f.kind f.call k p)) ≡ false
    of true =
        ap (λ b. has_begun f k.running.log && b) (not_due f.kind f.call k p on)
        ∙ and_false (has_begun f k.running.log)
    of false =
        ap (λ b. (p == f.pid) && ((entries f.pid f.call k.running.log == f.n) && b)) (not_due f.kind f.call k p on)
        ∙ none_at (p == f.pid) (entries f.pid f.call k.running.log == f.n)
