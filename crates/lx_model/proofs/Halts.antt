-- Group stops in the mode table.
use Rattle.std.proofs.Common.{◌≡◌, ℕ, Bool, true, false, cond, List, [], ◌++◌, refl, sym, ap, ap₂, ◌∙◌, append-nil, arith}
use Rattle.std.specs.Prelude.{◌==◌}
use Rattle.std.proofs.lemmas.Bool.Decides.{nat_tests}
use mathlib.Core.Path.{fun_ext}
use Rattle.lx_abi.specs.Log.{Noted}
use Rattle.lx_model.specs.declared.stage.Stage.TheVariants.{Stopped}
use Rattle.lx_model.specs.declared.stage.Task.{Task}
use Rattle.lx_model.specs.declared.stage.Task.TheVariants.{Alive}
use Rattle.lx_model.specs.Kernel.{put, Kernel}
use Rattle.lx_model.specs.Laws.{TheStoppedStay, ContinuedInTime}

same_where : {X : Type 0} (f : ℕ → X) (p q : ℕ) (b : Bool) → (p == q) ≡ b → cond b (f p) (f q) ≡ f q
same_where f p q true e = ap f (equal e)
  where
    equal : (p == q) ≡ true → p ≡ q
    equal h = grind (arith, nat_tests)
same_where f p q false e = refl

put_same : {X : Type 0} (f : ℕ → X) (p : ℕ) → put f p (f p) ≡ f
put_same f p = fun_ext (λ q. same_where f p q (p == q) refl)

kernel_is : {S B : Type 0} (k : Kernel S B) (tasks : ℕ → Task B) (log : List Noted) → tasks ≡ k.tasks → log ≡ k.log → record { shared = k.shared; tasks = tasks; child = k.child; log = log } ≡ k
kernel_is {S} {B} k tasks log e f = ap₂ made e f
  where
    made : (ℕ → Task B) → List Noted → Kernel S B
    made o l = record { shared = k.shared; tasks = o; child = k.child; log = l }

pub the_stopped_stay : {S B : Type 0} → TheStoppedStay S B
the_stopped_stay m script follow k p b signal task alive still = rw (task, alive, still) (kernel_is k (put k.tasks p (Alive b (Stopped signal))) (k.log ++ []) (ap (put k.tasks p) (sym task) ∙ put_same k.tasks p) (append-nil k.log))

pub continued_in_time : {S B : Type 0} → ContinuedInTime S B
continued_in_time m c s child p b signal cause alive stops continued = rw (alive, stops, continued) refl
