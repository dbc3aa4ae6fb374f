-- Registers as a list of 32 numbers.
use Rattle.std.proofs.Common.{◌≡◌, ◌<◌, ℕ, zero, suc, List, [], ◌∷◌, length, get_or, set, drop, pred, refl, sym, ap, ◌∙◌, arith}
use Rattle.lx_proc.specs.Registers.{padded}

-- padding is zeros, which stand past any list's end
pub get_or-padded : (n i : ℕ) (r : List ℕ) → i < n → get_or (padded n r) i 0 ≡ get_or r i 0
get_or-padded zero i r h = absurd (omega (arith, h))
get_or-padded (suc n) zero [] h = refl
get_or-padded (suc n) (suc i) [] h = get_or-padded n i [] (omega (arith, h)) ∙ refl
get_or-padded (suc n) zero (x ∷ r) h = refl
get_or-padded (suc n) (suc i) (x ∷ r) h = get_or-padded n i r (omega (arith, h))

pub length-padded : (n : ℕ) (r : List ℕ) → length (padded n r) ≡ n
length-padded zero r = refl
length-padded (suc n) [] = ap suc (length-padded n [])
length-padded (suc n) (x ∷ r) = ap suc (length-padded n r)

pub padded_same : (n : ℕ) (r : List ℕ) → length r ≡ n → padded n r ≡ r
padded_same zero [] h = refl
padded_same zero (x ∷ r) h = absurd (cc h)
padded_same (suc n) [] h = absurd (cc h)
padded_same (suc n) (x ∷ r) h = ap (λ t. x ∷ t) (padded_same n r (ap pred h))

-- a register after the first, set in the whole list or in that of the others
pub set_in_rest : (n : ℕ) (r : List ℕ) (i x : ℕ) → length r ≡ suc n → set r (suc i) x ≡ get_or r 0 0 ∷ set (padded n (drop 1 r)) i x
set_in_rest n [] i x h = absurd (cc h)
set_in_rest n (y ∷ r) i x h = ap (λ t. y ∷ set t i x) (sym (padded_same n r (ap pred h)))

-- a register after the first
pub later_register : (n i : ℕ) (r : List ℕ) → i < n → get_or (padded n (drop 1 r)) i 0 ≡ get_or r (suc i) 0
later_register n i [] h = get_or-padded n i [] h
later_register n i (x ∷ r) h = get_or-padded n i r h

-- the first of them set, in the whole list and before that of the others
pub first_set : (n : ℕ) (r : List ℕ) (x : ℕ) → length r ≡ suc n → set r 0 x ≡ padded (suc n) (x ∷ drop 1 r)
first_set n [] x h = absurd (cc h)
first_set n (y ∷ r) x h = ap (λ t. x ∷ t) (sym (padded_same n r (ap pred h)))
