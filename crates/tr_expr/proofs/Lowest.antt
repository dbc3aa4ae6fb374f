-- The cause that is found first.
use Rattle.std.proofs.Common.{◌≡◌, ◌≤◌, List, [], ◌∷◌, ◌++◌, Option, Some, None, true, false, nat_lt, inl, inr, refl, sym, ap, ◌∙◌, subst, arith}
use Rattle.std.specs.List.{AllByRecursion}
use Rattle.std.proofs.lemmas.Bool.Decides.{nat_tests, leb_tells}
use Rattle.tr_expr.specs.Faults.{found, sooner, first, rank, IsFirst, IsAmong}
use Rattle.tr_expr.specs.declared.fault.ExprFault.{ExprFault}

-- the kind that is found first
abbrev pub onto : ExprFault → Option ExprFault → ExprFault
onto x None = x
onto x (Some y) = first x y

abbrev pub lowest : List ExprFault → Option ExprFault
lowest [] = None
lowest (x ∷ xs) = Some (onto x (lowest xs))

pub first_again : (a b c : ExprFault) → first (first a b) c ≡ first a (first b c)
first_again a b c = grind (arith, nat_tests)

pub onto_again : (a b : ExprFault) (c : Option ExprFault) → onto (first a b) c ≡ first a (onto b c)
onto_again a b None = refl
onto_again a b (Some c) = first_again a b c

pub lowest_step : (a b : ExprFault) (xs : List ExprFault) → lowest (first a b ∷ xs) ≡ lowest (a ∷ b ∷ xs)
lowest_step a b xs = ap Some (onto_again a b (lowest xs))

pub lowest_none : (xs : List ExprFault) → lowest xs ≡ None → xs ≡ []
lowest_none [] e = refl
lowest_none (x ∷ xs) e = cc

pub below : (a b : ExprFault) (xs : List ExprFault) → rank a ≤ rank b → AllByRecursion (λ c. rank b ≤ rank c) xs → AllByRecursion (λ c. rank a ≤ rank c) xs
below a b [] h k = tt
below a b (x ∷ xs) h k = (omega arith, below a b xs h k.1)

both_first : (x y e : ExprFault) (xs : List ExprFault) → first x y ≡ e → IsFirst xs y → IsFirst (x ∷ xs) e
both_first x y e xs h f =
    elim (leb_tells (rank x) (rank y)) [
      | inl w ↦ let t : nat_lt (rank y) (rank x) ≡ false = grind (arith, nat_tests) in
          let p : x ≡ e = rw t at h in
          (inl p, (subst (λ z. rank z ≤ rank x) p (omega arith), subst (λ z. AllByRecursion (λ c. rank z ≤ rank c) xs) p (below x y xs (omega arith) f.1)))
      | inr w ↦ let t : nat_lt (rank y) (rank x) ≡ true = grind (arith, nat_tests) in
          let p : y ≡ e = rw t at h in
          (inr (subst (λ z. IsAmong xs z) p f.0), (subst (λ z. rank z ≤ rank x) p (omega arith), subst (λ z. AllByRecursion (λ c. rank z ≤ rank c) xs) p f.1))
    ]

one_first : (x e : ExprFault) (xs : List ExprFault) → x ≡ e → xs ≡ [] → IsFirst (x ∷ xs) e
one_first x e xs p none = rw none (inl p, (subst (λ z. rank z ≤ rank x) p (omega arith), tt))

more_first : (x : ExprFault) (xs : List ExprFault) (o : Option ExprFault) (e : ExprFault) → lowest xs ≡ o → Some (onto x o) ≡ Some e → ((d : ExprFault) → lowest xs ≡ Some d → IsFirst xs d) → IsFirst (x ∷ xs) e
more_first x xs None e o h ih = one_first x e xs (cc) (lowest_none xs o)
more_first x xs (Some y) e o h ih = both_first x y e xs (cc) (ih y o)

pub lowest_some : (xs : List ExprFault) (e : ExprFault) → lowest xs ≡ Some e → IsFirst xs e
lowest_some [] e h = cc
lowest_some (x ∷ xs) e h = more_first x xs (lowest xs) e refl h (lowest_some xs)

found_lowest : (a : ExprFault) (xs : List ExprFault) → found (Some a) xs ≡ lowest (a ∷ xs)
found_lowest a [] = refl
found_lowest a (x ∷ xs) = found_lowest (first a x) xs ∙ lowest_step a x xs

found_none_lowest : (xs : List ExprFault) → found None xs ≡ lowest xs
found_none_lowest [] = refl
found_none_lowest (x ∷ xs) = found_lowest x xs

pub found_append : (r : Option ExprFault) (xs ys : List ExprFault) → found r (xs ++ ys) ≡ found (found r xs) ys
found_append r [] ys = refl
found_append r (x ∷ xs) ys = found_append (Some (sooner r x)) xs ys

pub found_first : (xs : List ExprFault) (e : ExprFault) → found None xs ≡ Some e → IsFirst xs e
found_first xs e h = lowest_some xs e (sym (found_none_lowest xs) ∙ h)

pub found_none : (xs : List ExprFault) → found None xs ≡ None → xs ≡ []
found_none xs h = lowest_none xs (sym (found_none_lowest xs) ∙ h)

-- what was found before, and then
abbrev pub joined : Option ExprFault → Option ExprFault → Option ExprFault
joined before None = before
joined before (Some b) = Some (sooner before b)

joined_none : (o : Option ExprFault) → o ≡ joined None o
joined_none None = refl
joined_none (Some b) = refl

joined_onto : (a : ExprFault) (o : Option ExprFault) → Some (onto a o) ≡ joined (Some a) o
joined_onto a None = refl
joined_onto a (Some b) = refl

found_from : (s : Option ExprFault) (zs : List ExprFault) → found s zs ≡ joined s (found None zs)
found_from None zs = joined_none (found None zs)
found_from (Some a) zs = found_lowest a zs ∙ (joined_onto a (lowest zs) ∙ ap (λ o. joined (Some a) o) (sym (found_none_lowest zs)))

pub joined_found : (s t o : Option ExprFault) (xs ys ws : List ExprFault) → s ≡ found None xs → t ≡ found None ys → found t ws ≡ o → joined s o ≡ found None (xs ++ (ys ++ ws))
joined_found s t o xs ys ws p q r =
    let k : found None (ys ++ ws) ≡ o = found_append None ys ws ∙ (ap (λ u. found u ws) (sym q) ∙ r) in
    sym (found_append None xs (ys ++ ws) ∙ (ap (λ u. found u (ys ++ ws)) (sym p) ∙ (found_from s (ys ++ ws) ∙ ap (λ u. joined s u) k)))
