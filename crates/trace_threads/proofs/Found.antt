-- Whom a search in the cycle of pids finds, and whom it passes over.
use Rattle.std.proofs.Common.{◌≡◌, ℕ, zero, suc, ◌+◌, ◌-◌, ◌<◌, ◌≤◌, Bool, true, false, cond, Option, Some, None}
use Rattle.std.proofs.Common.{refl, sym, ap, ◌∙◌, arith}
use Rattle.std.specs.Prelude.{◌==◌, min}
use Rattle.std.proofs.lemmas.Bool.Decides.{nat_tests}
use Rattle.pt_schedule.specs.Cycle.{first_able, found_or, next_able}

-- one from here on, and below that, is able
pub record IsFound (able : ℕ → Bool) (low high p : ℕ) : Type 0 where
  pub able_so : able p ≡ true
  pub from : low ≤ p
  pub below : p < high

abbrev pid_or : ℕ → Option ℕ → ℕ
pid_or d None = d
pid_or d (Some p) = p

here : (able : ℕ → Bool) (p q n : ℕ) → able p ≡ true → Some p ≡ Some q → IsFound able p (p + suc n) q
here able p q n is h =
    let same : p ≡ q = ap (pid_or p) h in
    record { able_so = ap able (sym same) ∙ is; from = omega (arith, same); below = omega (arith, same) }

there : (able : ℕ → Bool) (p q n : ℕ) → IsFound able (p + 1) (p + 1 + n) q → IsFound able p (p + suc n) q
there able p q n f =
    let from = f.from in
    let below = f.below in
    record { able_so = f.able_so; from = omega (arith, from); below = omega (arith, below) }

either : (able : ℕ → Bool) (p q n : ℕ) (b : Bool) → able p ≡ b
    → (first_able able (p + 1) n ≡ Some q → IsFound able (p + 1) (p + 1 + n) q)
    → cond b (Some p) (first_able able (p + 1) n) ≡ Some q → IsFound able p (p + suc n) q
either able p q n true is again h = here able p q n is h
either able p q n false is again h = there able p q n (again h)

first_found : (n : ℕ) (able : ℕ → Bool) (p q : ℕ) → first_able able p n ≡ Some q → IsFound able p (p + n) q
first_found zero able p q e = absurd (cc e)
first_found (suc n) able p q e = either able p q n (able p) refl (first_found n able (p + 1) q) e

-- who has the next turn is able, and one of the pids
pub next_found : (able : ℕ → Bool) (most last p : ℕ) → next_able able most last ≡ Some p → IsFound able 1 (most + 1) p
unfolding next_able
next_found able most last p e = go (first_able able (low + 1) (most - low)) refl e
  where
    low : ℕ
    low = min last most

    go : (x : Option ℕ) → first_able able (low + 1) (most - low) ≡ x → found_or x (first_able able 1 low) ≡ Some p
        → IsFound able 1 (most + 1) p
    go (Some q) is h =
        let f : IsFound able (low + 1) (low + 1 + (most - low)) q = first_found (most - low) able (low + 1) q is in
        let same : q ≡ p = ap (pid_or q) h in
        let from = f.from in
        let below = f.below in
        let within : low ≤ most = omega arith in
        record {
          able_so = ap able (sym same) ∙ f.able_so;
          from = omega (arith, from, same);
          below = omega (arith, below, same, within);
        }
    go None is h =
        let f : IsFound able 1 (1 + low) p = first_found low able 1 p h in
        let from = f.from in
        let below = f.below in
        let within : low ≤ most = omega arith in
        record { able_so = f.able_so; from = omega (arith, from); below = omega (arith, below, within) }

-- where a search finds nobody it has passed over each

passed : (able : ℕ → Bool) (p q n : ℕ) (b : Bool) → able p ≡ b → cond b (Some p) (first_able able (p + 1) n) ≡ None
    → (first_able able (p + 1) n ≡ None → p + 1 ≤ q → able q ≡ false) → p ≤ q → (same : Bool) → (p == q) ≡ same
    → able q ≡ false
passed able p q n true is h again from same eq = absurd (cc h)
passed able p q n false is h again from true eq =
    let one : p ≡ q = grind (arith, nat_tests, eq) in ap able (sym one) ∙ is
passed able p q n false is h again from false eq =
    again h (grind (arith, nat_tests, eq, from))

first_none : (n : ℕ) (able : ℕ → Bool) (p q : ℕ) → first_able able p n ≡ None → p ≤ q → q < p + n → able q ≡ false
first_none zero able p q e from below = let bad : ⊥ = omega (arith, from, below) in absurd bad
first_none (suc n) able p q e from below =
    passed able p q n (able p) refl e (λ h more. first_none n able (p + 1) q h more (omega (arith, below))) from (p == q)
    refl

-- so he who had the last turn isn't able
pub last_unable : (able : ℕ → Bool) (most p : ℕ) → next_able able most p ≡ None → 1 ≤ p → p ≤ most → able p ≡ false
unfolding next_able
last_unable able most p e from within = go (first_able able (low + 1) (most - low)) e
  where
    low : ℕ
    low = min p most

    go : (x : Option ℕ) → found_or x (first_able able 1 low) ≡ None → able p ≡ false
    go (Some q) h = absurd (cc h)
    go None h = let is : low ≡ p = omega (arith, within) in first_none low able 1 p h from (omega (arith, is))
