-- The slots of one row.
use Rattle.std.proofs.Common.{◌≡◌, ℕ, zero, suc, ◌+◌, ◌-◌, ◌<◌, ◌≤◌, Bool, true, false, cond, [], ◌∷◌, Option, Some, None, refl, sym, ap, subst, ◌∙◌, arith, rules, get_or, take, length}
use Rattle.std.proofs.lemmas.Bool.Decides.{nat_tests}
use Rattle.std.specs.Prelude.{IsSome, find, is_some, nat_lt, slice_get}
use Rattle.std.specs.List.{range_with_len}
use Rattle.shelves.proofs.Shelved.{alike, apart_from, tells}
use Rattle.lx_open.specs.Kinds.{Slot}
use Rattle.lx_open.specs.Rows.{Slots, IsNextIn}

-- the first open one of those from one up to another
abbrev FirstIn : Slots → ℕ → ℕ → Option ℕ → Type 0
FirstIn row from end None = (q : ℕ) → from ≤ q → q < end → get_or row q None ≡ None
FirstIn row from end (Some n) = (from ≤ n) × (n < end) × IsSome (get_or row n None) × ((q : ℕ) → from ≤ q → q < n → get_or row q None ≡ None)

module _ (row : Slots) where
  also_here : (from q : ℕ) → get_or row from None ≡ None → from ≤ q → (from + 1 ≤ q → get_or row q None ≡ None) → get_or row q None ≡ None
  also_here from q none le rest = elim (tells q from) [
    | alike e t ↦ ap (λ i. get_or row i None) e ∙ none
    | apart_from n t ↦ rest (omega (arith, le, n))
  ]

  one_more : (from end : ℕ) (r : Option ℕ) → get_or row from None ≡ None → FirstIn row (from + 1) end r → FirstIn row from end r
  one_more from end None none first = λ q le lt. also_here from q none le (λ more. first q more lt)
  one_more from end (Some n) none first = (
    let low = first.0 in omega (arith, low),
    first.1,
    first.2,
    λ q le lt. also_here from q none le (λ more. first.3 q more lt),
  )

  -- the first of them, by whether the next one is open
  by_next : (from end : ℕ) (o : Option Slot) (r : Option ℕ) → from < end → get_or row from None ≡ o → FirstIn row (from + 1) end r → FirstIn row from end (cond (is_some o) (Some from) r)
  by_next from end None r lt none first = one_more from end r none first
  by_next from end (Some s) r lt some first = (
    omega arith,
    lt,
    subst IsSome (sym some) (search rules),
    λ q le less. absurd (omega (arith, le, less)),
  )

  first_in : (k from end : ℕ) → from + k ≡ end → FirstIn row from end (find (λ q. is_some (get_or row q None)) (range_with_len from k))
  first_in zero from end e = λ q le lt. absurd (omega (arith, e, le, lt))
  first_in (suc k) from end e = by_next from end (get_or row from None) _ (omega (arith, e)) refl (first_in k (from + 1) end (omega (arith, e)))

  within : (from end : ℕ) (r : Option ℕ) → from ≤ 256 → end ≤ 256 → ((q : ℕ) → end ≤ q → q < 256 → get_or row q None ≡ None) → FirstIn row from (from + (end - from)) r → IsNextIn row from r
  within from end None low small beyond first = λ q le lt. go q le lt (nat_lt q (from + (end - from))) refl
    where
      go : (q : ℕ) → from ≤ q → q < 256 → (b : Bool) → nat_lt q (from + (end - from)) ≡ b → get_or row q None ≡ None
      go q le lt true e = first q le (grind (arith, nat_tests, e))
      go q le lt false e = let past : from + (end - from) ≤ q = grind (arith, nat_tests, e) in beyond q (omega (arith, past)) lt
  within from end (Some n) low small beyond first = (
    first.0,
    let less = first.1 in omega (arith, less, low, small),
    first.2,
    first.3,
  )

  pub next_in : (from end : ℕ) (r : Option ℕ) → from ≤ 256 → end ≤ 256 → ((q : ℕ) → end ≤ q → q < 256 → get_or row q None ≡ None) → r ≡ find (λ q. is_some (get_or row q None)) (range_with_len from (end - from)) → IsNextIn row from r
  next_in from end r low small beyond is = within from end r low small beyond (subst (FirstIn row from (from + (end - from))) (sym is) (first_in (end - from) from (from + (end - from)) refl))

-- an empty slot at the end may go
shorter : (row : Slots) (n : ℕ) → length row ≡ n + 1 → slice_get row n ≡ Some None → (q : ℕ) → get_or (take n row) q None ≡ get_or row q None
shorter [] n long e q = absurd (omega (arith, long))
shorter (s ∷ []) zero long e zero = let none : s ≡ None = cc e in sym none
shorter (s ∷ []) zero long e (suc q) = refl
shorter (s ∷ t ∷ row) zero long e q = absurd (omega (arith, long))
shorter (s ∷ row) (suc n) long e zero = refl
shorter (s ∷ row) (suc n) long e (suc q) = shorter row n (omega (arith, long)) e q

some_slot : (row : Slots) (n : ℕ) → slice_get row n ≡ Some None → 0 < length row
some_slot [] n e = absurd (let no : ⊥ = cc e in no)
some_slot (s ∷ row) n e = omega arith

pub trimmed : (row : Slots) → slice_get row (length row - 1) ≡ Some None → (q : ℕ) → get_or (take (length row - 1) row) q None ≡ get_or row q None
trimmed row e = let some = some_slot row (length row - 1) e in shorter row (length row - 1) (omega (arith, some)) e
