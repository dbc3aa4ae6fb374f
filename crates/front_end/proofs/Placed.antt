-- Values and their places, taken one by one.
use Rattle.std.proofs.Common.{◌≡◌, ℕ, List, [], ◌∷◌, ◌++◌, map, length, refl, sym, ap, ◌∙◌, append_assoc, arith, ◌⊎◌, inl, inr}
use Rattle.std.specs.Borrow.{Bor}
use Rattle.std.specs.List.{zip}
use Rattle.std.proofs.lemmas.List.{append-nil}

nothing_left : {X : Type 0} (l : List X) → length l ≡ 0 → l ≡ []
nothing_left [] h = refl
nothing_left (x ∷ xs) h = absurd (omega arith)

zip_nothing : {A B : Type 0} (xs : List A) → zip {X = B} xs [] ≡ []
zip_nothing [] = refl
zip_nothing (x ∷ xs) = refl

module _ {A B C : Type 0} (f : A × B → C) where
  -- what is still to come
  abbrev pub to_come : List (Bor A) → List B → List C
  to_come values places = map f (zip (map (λ value. value.now) values) places)

  pub one_on : (old new all : List C) (values values' : List (Bor A)) (places places' : List B) (value : Bor A) (place : B)
      → values ≡ value ∷ values' → places ≡ place ∷ places' → old ++ to_come values places ≡ all
      → new ≡ old ++ f (value.now, place) ∷ [] → new ++ to_come values' places' ≡ all
  one_on old new all values values' places places' value place v p whole more =
      ap (λ l. l ++ to_come values' places') more
      ∙ append_assoc old (f (value.now, place) ∷ []) (to_come values' places')
      ∙ ap (λ l. old ++ l) (sym (ap (λ l. to_come l places) v ∙ ap (λ l. to_come (value ∷ values') l) p))
      ∙ whole

  pub at_end : (old all : List C) (values : List (Bor A)) (places : List B)
      → (length values ≡ 0) ⊎ (length places ≡ 0) → old ++ to_come values places ≡ all → old ≡ all
  at_end old all values places (inl none) whole =
      sym (append-nil old) ∙ ap (λ l. old ++ to_come l places) (sym (nothing_left values none)) ∙ whole
  at_end old all values places (inr none) whole =
      sym (append-nil old)
      ∙ ap (λ l. old ++ map f l) (sym (zip_nothing (map (λ value. value.now) values)))
      ∙ ap (λ l. old ++ to_come values l) (sym (nothing_left places none)) ∙ whole

pub ended : {S T : Type 0} {X : S → Type 0} {Y : T → Type 0} {n m : ℕ}
    → ((u : S) × ((n ≡ 0) × X u)) ⊎ ((u : T) × ((m ≡ 0) × Y u)) → (n ≡ 0) ⊎ (m ≡ 0)
ended (inl one) = inl one.1.0
ended (inr one) = inr one.1.0

pub moved : {A C : Type 0} (f : A → C) (old new all : List C) (xs xs' : List A) (x : A) → xs ≡ x ∷ xs'
    → old ++ map f xs ≡ all → new ≡ old ++ f x ∷ [] → new ++ map f xs' ≡ all
moved f old new all xs xs' x split whole more =
    ap (λ l. l ++ map f xs') more ∙ append_assoc old (f x ∷ []) (map f xs')
    ∙ ap (λ l. old ++ map f l) (sym split) ∙ whole

pub all_moved : {A C : Type 0} (f : A → C) (old all : List C) (xs : List A) → length xs ≡ 0 → old ++ map f xs ≡ all
    → old ≡ all
all_moved f old all xs none whole =
    sym (append-nil old) ∙ ap (λ l. old ++ map f l) (sym (nothing_left xs none)) ∙ whole

pub four : {A : Type 0} (p0 p1 p2 p3 p4 a b c d : List A) → p0 ≡ [] → p1 ≡ p0 ++ a → p2 ≡ p1 ++ b → p3 ≡ p2 ++ c
    → p4 ≡ p3 ++ d → p4 ≡ a ++ b ++ c ++ d
four p0 p1 p2 p3 p4 a b c d e0 e1 e2 e3 e4 =
    e4 ∙ ap (λ l. l ++ d) (e3 ∙ ap (λ l. l ++ c) (e2 ∙ ap (λ l. l ++ b) (e1 ∙ ap (λ l. l ++ a) e0)))
