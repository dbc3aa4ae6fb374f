-- Where a process stands, and whether a turn moves it.
use Rattle.std.proofs.Common.{◌≡◌, ◌⊎◌, ◌≢◌, ℕ, Bool, true, false, cond, not, Option, Some, None, refl, sym, ap, ◌∙◌, inl, inr, arith}
use Rattle.std.specs.Prelude.{◌==◌, ◌||◌}
use Rattle.std.proofs.lemmas.Bool.Decides.{nat_tests}
use Rattle.lx_abi.specs.declared.log.Mode.{Mode}
use Rattle.lx_abi.specs.declared.log.Mode.TheVariants as mode
use Rattle.lx_model.specs.declared.stage.Task.{Task}
use Rattle.lx_model.specs.declared.stage.Task.TheVariants.{Alive, Dying, Gone}
use Rattle.lx_model.specs.Finite.{task_mode}
use Rattle.lx_proc.specs.declared.state.UserState.{UserState}
use Rattle.lx_proc.specs.declared.state.Entry.{Entry}
use Rattle.lx_proc.specs.declared.state.Life.{Life}
use Rattle.lx_proc.specs.declared.state.Life.TheVariants as life
use Rattle.lx_turn.specs.Modes.{life_mode, task_mode as kernel_mode}
use Rattle.pt_schedule.specs.Modes.{is_finished, mode_number, is_run, same_mode, moves}

mode_of : ℕ → Option Mode
mode_of n = cond (n == 1) (Some mode.Born) (cond (n == 2) (Some mode.Run) (cond (n == 3) (Some mode.Faulting) (cond (n == 4) (Some mode.Entered) (cond (n == 5) (Some mode.Doing) (cond (n == 6) (Some mode.Acted) (cond (n == 7) (Some mode.Finished) (cond (n == 8) (Some mode.Taken) (cond (n == 9) (Some mode.Dying) (cond (n == 10) (Some mode.Zombie) (cond (n == 11) (Some mode.Stopped) (cond (n == 12) (Some mode.Woken) None)))))))))))

back : (x : Option Mode) → mode_of (mode_number x) ≡ x
unfolding mode_of
back None = refl
back (Some mode.Born) = refl
back (Some mode.Run) = refl
back (Some mode.Faulting) = refl
back (Some mode.Entered) = refl
back (Some mode.Doing) = refl
back (Some mode.Acted) = refl
back (Some mode.Finished) = refl
back (Some mode.Taken) = refl
back (Some mode.Dying) = refl
back (Some mode.Zombie) = refl
back (Some mode.Stopped) = refl
back (Some mode.Woken) = refl

equal_numbers : (m n : ℕ) → (m == n) ≡ true → m ≡ n
equal_numbers m n h = grind (arith, nat_tests)

same_number : (m n : ℕ) → m ≡ n → (m == n) ≡ true
same_number m n h = grind (arith, nat_tests)

same_is : (x y : Option Mode) → same_mode x y ≡ true → x ≡ y
same_is x y h = sym (back x) ∙ ap mode_of (equal_numbers (mode_number x) (mode_number y) h) ∙ back y

abbrev pub Moves : Option Mode → Option Mode → Type 0
Moves x y = (x ≡ Some mode.Run) ⊎ (y ≢ x)

pub to_moves : (x y : Option Mode) (r s : Bool) → is_run x ≡ r → same_mode x y ≡ s → (r || not s) ≡ true → Moves x y
to_moves x y true s e f h = inl (same_is x (Some mode.Run) e)
to_moves x y false true e f h = absurd (cc h)
to_moves x y false false e f h = inr (λ g. cc (sym f ∙ same_number (mode_number x) (mode_number y) (ap mode_number (sym g))))

from_moves : (x y : Option Mode) (r s : Bool) → is_run x ≡ r → same_mode x y ≡ s → Moves x y → (r || not s) ≡ true
from_moves x y true s e f h = refl
from_moves x y false false e f h = refl
from_moves x y false true e f h = elim h [ inl g ↦ absurd (cc (sym e ∙ ap is_run g)) | inr g ↦ absurd (g (sym (same_is x y f))) ]

by_both : (r s : Bool) → (r ≡ true → s ≡ true) → (s ≡ true → r ≡ true) → r ≡ s
by_both true s f g = sym (f refl)
by_both false true f g = g refl
by_both false false f g = refl

-- whether a process is able, as a test
pub able_by_modes : (r : Bool) (x y : Option Mode) → (r ≡ true → Moves x y) → (Moves x y → r ≡ true) → r ≡ moves x y
able_by_modes r x y f g = by_both r (moves x y) (λ e. from_moves x y (is_run x) (same_mode x y) refl refl (f e)) (λ e. g (to_moves x y (is_run x) (same_mode x y) refl refl e))

buried_finished : (e : Entry) (l : Life) → is_finished (life_mode (Some (record e { life = l }))) ≡ false
buried_finished e life.Alive = refl
buried_finished e (life.Dying x) = refl
buried_finished e (life.Zombie x) = refl

-- no zombie is at the end of a call
pub finished_by_mode : (x : Option Entry) (task : Task UserState) → is_finished (kernel_mode x task) ≡ is_finished (task_mode task)
finished_by_mode x (Alive b stage) = refl
finished_by_mode x (Dying w) = refl
finished_by_mode None Gone = refl
finished_by_mode (Some e) Gone = buried_finished e e.life
