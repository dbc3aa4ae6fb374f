-- Lists, one value after the other.
use Rattle.std.proofs.Common.{◌≡◌, ℕ, zero, suc, length, arith, Bool, true, false, cond, List, [], ◌∷◌, ◌++◌, map, take, refl, ap, ◌∙◌}
use Rattle.std.specs.Prelude.{min}
use Rattle.std.specs.List.{filter}

module _ {X : Type 0} where
  pub snoc_append : (xs : List X) (x : X) (ys : List X) → (xs ++ x ∷ []) ++ ys ≡ xs ++ x ∷ ys
  snoc_append [] x ys = refl
  snoc_append (z ∷ xs) x ys = ap (λ zs. z ∷ zs) (snoc_append xs x ys)

  append_twice : (xs ys zs : List X) → (xs ++ ys) ++ zs ≡ xs ++ (ys ++ zs)
  append_twice [] ys zs = refl
  append_twice (x ∷ xs) ys zs = ap (λ l. x ∷ l) (append_twice xs ys zs)

  -- more, and then the others
  pub more_added : (before after more rest : List X) → after ≡ before ++ more → after ++ rest ≡ before ++ (more ++ rest)
  more_added before after more rest e = ap (λ xs. xs ++ rest) e ∙ append_twice before more rest

  pub take_least : (n : ℕ) (xs : List X) → take (min n (length xs)) xs ≡ take n xs
  take_least zero xs = ap (λ k. take k xs) (let e : min 0 (length xs) ≡ 0 = omega arith in e)
  take_least (suc n) [] = ap (λ k. take k []) (let e : min (suc n) 0 ≡ 0 = omega arith in e)
  take_least (suc n) (x ∷ xs) =
      let e : min (suc n) (suc (length xs)) ≡ suc (min n (length xs)) = omega arith in
      ap (λ k. take k (x ∷ xs)) e ∙ ap (λ zs. x ∷ zs) (take_least n xs)

module _ {X Y : Type 0} (f : X → Y) (p : X → Bool) where
  -- one that is added if it is to be
  pub one_tried : (x : X) (xs : List X) (before after : List Y) → after ≡ before ++ cond (p x) (f x ∷ []) []
      → after ++ map f (filter p xs) ≡ before ++ map f (filter p (x ∷ xs))
  one_tried x xs before after e =
      more_added before after (cond (p x) (f x ∷ []) []) (map f (filter p xs)) e ∙ ap (λ ys. before ++ ys) (of (p x))
    where
      of : (b : Bool) → cond b (f x ∷ []) [] ++ map f (filter p xs) ≡ map f (cond b (x ∷ filter p xs) (filter p xs))
      of true = refl
      of false = refl
