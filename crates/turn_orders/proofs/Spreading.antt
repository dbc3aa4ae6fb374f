-- Gaps, one after the other.
use Rattle.std.proofs.Common.{◌≡◌, ◌<◌, ◌-◌, ◌++◌, ℕ, zero, suc, List, [], ◌∷◌, refl, ap, ◌∙◌, arith}
use Rattle.turn_orders.specs.Places.{halves, middles}
use Rattle.turn_orders.specs.declared.places.Gap.{Gap}

pub no_middles : (n : ℕ) → middles n [] ≡ []
no_middles zero = refl
no_middles (suc n) = refl

snoc_append : (xs : List ℕ) (x : ℕ) (ys : List ℕ) → (xs ++ x ∷ []) ++ ys ≡ xs ++ x ∷ ys
snoc_append [] x ys = refl
snoc_append (z ∷ xs) x ys = ap (λ zs. z ∷ zs) (snoc_append xs x ys)

-- a middle more, and then the others
pub one_middle : (places : List ℕ) (n : ℕ) (g : Gap) (gs : List Gap) → 0 < n
    → (places ++ g.middle ∷ []) ++ middles (n - 1) (gs ++ halves g) ≡ places ++ middles n (g ∷ gs)
one_middle places zero g gs h = absurd (omega (arith, h))
one_middle places (suc n) g gs h =
    let less : suc n - 1 ≡ n = omega arith in
    ap (λ k. (places ++ g.middle ∷ []) ++ middles k (gs ++ halves g)) less
    ∙ snoc_append places g.middle (middles n (gs ++ halves g))
