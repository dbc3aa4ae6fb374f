-- The first of some pids that is able, further on.
use Rattle.std.proofs.Common.{◌≡◌, ℕ, zero, suc, ◌+◌, ◌-◌, ◌<◌, ◌≤◌, Bool, true, false, cond, Option, Some, None, refl, sym, ap, subst, ◌∙◌, arith}
use Rattle.pt_schedule.specs.Cycle.{first_able}

-- who isn't able is passed over
pub first_able-next : (able : ℕ → Bool) (p e : ℕ) → p < e → able p ≡ false → first_able able p (e - p) ≡ first_able able (p + 1) (e - (p + 1))
first_able-next able p e h t =
    let z : e - p ≡ suc (e - (p + 1)) = omega arith in
    rw z (ap (λ b. cond b (Some p) (first_able able (p + 1) (e - (p + 1)))) t)

-- so are some in a row
skipped : (n : ℕ) (able : ℕ → Bool) (p e : ℕ) → p + n ≤ e → ((q : ℕ) → p ≤ q → q < p + n → able q ≡ false) → first_able able p (e - p) ≡ first_able able (p + n) (e - (p + n))
skipped zero able p e l h =
    let z : p + 0 ≡ p = omega arith in
    rw z refl
skipped (suc n) able p e l h =
    let z : p + suc n ≡ (p + 1) + n = omega arith in
    first_able-next able p e (omega (arith, l)) (h p (omega arith) (omega arith))
    ∙ skipped n able (p + 1) e (omega (arith, l)) (λ q a b. h q (omega (arith, a)) (omega (arith, b)))
    ∙ ap (λ x. first_able able x (e - x)) (sym z)

pub first_able-skip : (able : ℕ → Bool) (p q e : ℕ) → p ≤ q → q ≤ e → ((n : ℕ) → p ≤ n → n < q → able n ≡ false) → first_able able p (e - p) ≡ first_able able q (e - q)
first_able-skip able p q e a b h =
    let z : p + (q - p) ≡ q = omega (arith, a) in
    skipped (q - p) able p e (omega (arith, a, b)) (λ n l m. h n l (omega (arith, a, m))) ∙ ap (λ x. first_able able x (e - x)) z

-- none of them is
pub first_able-none : (able : ℕ → Bool) (p e : ℕ) → p ≤ e → ((n : ℕ) → p ≤ n → n < e → able n ≡ false) → first_able able p (e - p) ≡ None
first_able-none able p e l h =
    let z : e - e ≡ 0 = omega arith in
    first_able-skip able p e e l (omega arith) h ∙ ap (first_able able e) z

-- the first of them is
pub first_able-here : (able : ℕ → Bool) (p e : ℕ) → p < e → able p ≡ true → first_able able p (e - p) ≡ Some p
first_able-here able p e l h =
    let z : e - p ≡ suc (e - (p + 1)) = omega (arith, l) in
    rw z (ap (λ b. cond b (Some p) (first_able able (p + 1) (e - (p + 1)))) h)
