-- One rule alone.
use Rattle.std.proofs.Common.{◌≡◌, ℕ, ◌-◌, ◌%◌, Bool, true, false, cond, ◌&&◌, ◌||◌, [], ◌∷◌, Option, Some, None, refl, ap, ◌∙◌, arith}
use Rattle.std.specs.Prelude.{◌==◌, nat_eq, nat_le, if◌then◌else◌}
use Rattle.std.proofs.lemmas.Bool.Decides.{nat_tests}
use Rattle.lx_abi.specs.declared.script.Rule.{Rule}
use Rattle.lx_abi.specs.Scripts.{includes, covers, done_by, no_choice, choice_of}
use Rattle.lx_abi.specs.Whens.{up_to}
use Rattle.sweep_rows.specs.declared.failures.Failure.{Failure}
use Rattle.sweep_rows.specs.Failures.{failed_by, IsFor, FailsAlone}

-- the occurrence alone is covered
covers_one : (m n : ℕ) → (nat_le m n && (nat_le n m && nat_eq ((n - m) % 1) 0)) ≡ (n == m)
covers_one m n = of (nat_le m n) (nat_le n m) (n == m) refl refl refl
  where
    none : (x : ℕ) → nat_eq (x % 1) 0 ≡ true
    none x = grind (arith, nat_tests)

    of : (a b d : Bool) → nat_le m n ≡ a → nat_le n m ≡ b → (n == m) ≡ d → (a && (b && nat_eq ((n - m) % 1) 0)) ≡ d
    of true true true e f g = none (n - m)
    of true true false e f g = absurd (grind (arith, nat_tests, e, f, g))
    of true false true e f g = absurd (grind (arith, nat_tests, f, g))
    of true false false e f g = refl
    of false b true e f g = absurd (grind (arith, nat_tests, e, g))
    of false b false e f g = refl

module _ (f : Failure) (rule : Rule) (is : IsFor f rule) where
  includes_is : (call : ℕ) → includes rule.calls call ≡ (call == f.call)
  includes_is call = ap (λ s. includes s call) is.calls ∙ of (nat_eq f.call call) (call == f.call) refl refl
    where
      of : (a b : Bool) → nat_eq f.call call ≡ a → (call == f.call) ≡ b → (a || false) ≡ b
      of true true e g = refl
      of true false e g = absurd (grind (arith, nat_tests, e, g))
      of false true e g = absurd (grind (arith, nat_tests, e, g))
      of false false e g = refl

  covers_by : (first step : ℕ) (last : Option ℕ) (n : ℕ) → first ≡ f.n → last ≡ Some f.n → step ≡ 1 → (nat_le first n && (up_to last n && nat_eq ((n - first) % step) 0)) ≡ (n == f.n)
  covers_by first step last n e g h =
      ap (λ x. nat_le x n && (up_to last n && nat_eq ((n - x) % step) 0)) e
      ∙ ap (λ x. nat_le f.n n && (up_to x n && nat_eq ((n - f.n) % step) 0)) g
      ∙ ap (λ x. nat_le f.n n && (nat_le n f.n && nat_eq ((n - f.n) % x) 0)) h
      ∙ covers_one f.n n

  pub fails_alone : FailsAlone f (rule ∷ [])
  unfolding choice_of
  fails_alone call n = of (includes rule.calls call) (includes_is call)
    where
      when_covered : (b : Bool) → b ≡ (n == f.n) → (if b then rule.choice else no_choice) ≡ cond (n == f.n) (failed_by f) no_choice
      when_covered b e = ap (λ x. cond x rule.choice no_choice) e ∙ ap (λ x. cond (n == f.n) x no_choice) is.choice

      of : (b : Bool) → b ≡ (call == f.call) → done_by (cond b (Some rule) None) n ≡ cond ((call == f.call) && (n == f.n)) (failed_by f) no_choice
      of true e = when_covered (covers rule.when n) (covers_by rule.when.first rule.when.step rule.when.last n is.first is.last is.step) ∙ ap (λ x. cond (x && (n == f.n)) (failed_by f) no_choice) e
      of false e = ap (λ x. cond (x && (n == f.n)) (failed_by f) no_choice) e
