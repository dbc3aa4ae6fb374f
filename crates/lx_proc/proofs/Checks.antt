-- What holds of a check's answer: it holds of the refusal, and of what comes after the check.
use Rattle.std.proofs.Common.{◌≡◌, ℕ, Bool, true, false, cond, Option, Some, None, refl}
use Rattle.std.specs.declared.result.Result.{Result}
use Rattle.std.specs.declared.result.Result.TheVariants.{Ok, Err}
use Rattle.lx_model.specs.Machine.{Refused}
use Rattle.lx_proc.specs.Answers.{Answers, unless, given, granted}

-- what holds of the error, if it is one
abbrev pub OfError : {A : Type 0} → (ℕ → Type 0) → Result A ℕ → Type 0
OfError E (Ok x) = Unit {0}
OfError E (Err e) = E e

pub of_any : {A : Type 0} (E : ℕ → Type 0) → ((e : ℕ) → E e) → (r : Result A ℕ) → OfError E r
of_any E any (Ok x) = tt
of_any E any (Err e) = any e

module _ (P : Answers → Type 0) where
  pub either : (test : Bool) (x y : Answers) → (test ≡ true → P x) → (test ≡ false → P y) → P (cond test x y)
  either true x y h g = h refl
  either false x y h g = g refl

  pub checked : (test : Bool) (e : ℕ) (a : Answers) → P (Refused e) → (test ≡ true → P a) → P (unless test e a)
  checked true e a bad h = h refl
  checked false e a bad h = bad

  pub named : {A : Type 0} (o : Option A) (e : ℕ) (f : A → Answers) → P (Refused e) → ((x : A) → o ≡ Some x → P (f x)) → P (given o e f)
  named None e f bad h = bad
  named (Some x) e f bad h = h x refl

  pub allowed : {A : Type 0} (r : Result A ℕ) (f : A → Answers) → OfError (λ e. P (Refused e)) r → ((x : A) → r ≡ Ok x → P (f x)) → P (granted r f)
  allowed (Err e) f bad h = bad
  allowed (Ok x) f bad h = h x refl
