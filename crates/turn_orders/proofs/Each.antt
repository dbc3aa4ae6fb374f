-- By novelty each place comes once.
use Rattle.std.proofs.Common.{◌≡◌, ◌<◌, ◌≤◌, ◌+◌, ◌==◌, ◌++◌, ℕ, zero, suc, Bool, true, false, cond, List, [], ◌∷◌, length, take, drop, flat_map, IsPermutation, refl, sym, ap, subst, ◌∙◌, arith, append_assoc}
use Rattle.std.specs.List.{range_with_len, AllByRecursion}
use Rattle.std.proofs.lemmas.Bool.{eqb-true, eqb-false, ne_eqb}
use Rattle.std.proofs.lemmas.List.Elements.{recursion_from_All}
use Rattle.std.proofs.lemmas.List.Sorted.{IsPermutation-refl, IsPermutation-trans, IsPermutation-cons, IsPermutation-sym, IsPermutation-append, IsPermutation-append_left, IsPermutation-append_right, IsPermutation-append_comm, length_permutation}
use Rattle.turn_orders.specs.Novelty.{places_from, element, block_of, blocks_from, round, rounds_from, novel, EachOnce}
use Rattle.turn_orders.proofs.Spreads.{spread_over_is}

-- the parts of two lists, by turns
four : (a b c d : List ℕ) → IsPermutation ((a ++ b) ++ (c ++ d)) ((a ++ c) ++ (b ++ d))
four a b c d =
    let front : (a ++ b) ++ (c ++ d) ≡ a ++ ((b ++ c) ++ d) =
    append_assoc a b (c ++ d) ∙ ap (λ xs. a ++ xs) (sym (append_assoc b c d)) in
    let back : a ++ ((c ++ b) ++ d) ≡ (a ++ c) ++ (b ++ d) =
    ap (λ xs. a ++ xs) (append_assoc c b d) ∙ sym (append_assoc a c (b ++ d)) in
    let other : IsPermutation (a ++ ((b ++ c) ++ d)) (a ++ ((c ++ b) ++ d)) =
    IsPermutation-append_right a ((b ++ c) ++ d) ((c ++ b) ++ d)
    (IsPermutation-append_left d (b ++ c) (c ++ b) (IsPermutation-append_comm b c)) in
    subst (λ xs. IsPermutation xs ((a ++ c) ++ (b ++ d))) (sym front)
    (subst (λ xs. IsPermutation (a ++ ((b ++ c) ++ d)) xs) back other)

parts : {A : Type 0} (f g h : A → List ℕ) → ((x : A) → f x ≡ g x ++ h x) → (xs : List A)
    → IsPermutation (flat_map f xs) (flat_map g xs ++ flat_map h xs)
parts f g h is [] = IsPermutation-refl []
parts f g h is (x ∷ xs) =
    let more : IsPermutation ((g x ++ h x) ++ flat_map f xs) ((g x ++ h x) ++ (flat_map g xs ++ flat_map h xs)) =
    IsPermutation-append_right (g x ++ h x) (flat_map f xs) (flat_map g xs ++ flat_map h xs) (parts f g h is xs) in
    subst (λ ys. IsPermutation (ys ++ flat_map f xs) ((g x ++ flat_map g xs) ++ (h x ++ flat_map h xs))) (sym (is x))
    (IsPermutation-trans _ _ _ more (four (g x) (h x) (flat_map g xs) (flat_map h xs)))

nothing : {A : Type 0} (f : A → List ℕ) → ((x : A) → f x ≡ []) → (xs : List A) → flat_map f xs ≡ []
nothing f none [] = refl
nothing f none (x ∷ xs) = ap (λ ys. ys ++ flat_map f xs) (none x) ∙ nothing f none xs

whole : (n : ℕ) (xs : List ℕ) → length xs ≤ n → take n xs ≡ xs
whole zero [] le = refl
whole zero (x ∷ xs) le = absurd (omega (arith, le))
whole (suc n) [] le = refl
whole (suc n) (x ∷ xs) le = ap (λ ys. x ∷ ys) (whole n xs (omega (arith, le)))

-- one element, and those behind it
piece : (b : List ℕ) (k n : ℕ) → take (suc n) (drop k b) ≡ element b k ++ take n (drop (suc k) b)
piece [] zero n = sym (whole n [] (omega arith))
piece [] (suc k) n = sym (whole n [] (omega arith))
piece (x ∷ xs) zero n = refl
piece (x ∷ xs) (suc k) n = piece xs k n

rounds_are : (blocks : List (List ℕ)) (k n : ℕ)
    → IsPermutation (flat_map (λ b. take n (drop k b)) blocks) (rounds_from blocks k n)
rounds_are blocks k zero = subst (λ xs. IsPermutation xs []) (sym (nothing (λ b. take zero (drop k b)) (λ b. refl) blocks)) (IsPermutation-refl [])
rounds_are blocks k (suc n) =
    IsPermutation-trans _ _ _
    (parts (λ b. take (suc n) (drop k b)) (λ b. element b k) (λ b. take n (drop (suc k) b)) (λ b. piece b k n) blocks)
    (IsPermutation-append_right (round blocks k) _ _ (rounds_are blocks (suc k) n))

few_places : (here k : ℕ) (kinds : List ℕ) → length (places_from here k kinds) ≤ length kinds
few_places here k [] = omega arith
few_places here k (x ∷ xs) = by_test (x == k) (few_places (suc here) k xs)
  where
    by_test : (t : Bool) → length (places_from (suc here) k xs) ≤ length xs
        → length (cond t (here ∷ []) [] ++ places_from (suc here) k xs) ≤ suc (length xs)
    by_test true less = omega (arith, less)
    by_test false less = omega (arith, less)

-- blocks have the places of their kinds
blocks_are : (kinds : List ℕ) (n : ℕ) → length kinds ≤ n → (j count : ℕ)
    → IsPermutation (flat_map (λ k. places_from 0 k kinds) (range_with_len j count))
    (flat_map (λ b. take n (drop 0 b)) (blocks_from kinds j count))
blocks_are kinds n le j zero = IsPermutation-refl []
blocks_are kinds n le j (suc count) =
    let own = places_from 0 j kinds in
    let block = block_of kinds j in
    let is : IsPermutation own block = spread_over_is own in
    let long : length block ≡ length own = length_permutation own block is in
    let less = few_places 0 j kinds in
    let all : take n block ≡ block = whole n block (omega (arith, long, less, le)) in
    let next : j + 1 ≡ suc j = omega arith in
    IsPermutation-append own (take n block) _ _ (subst (λ xs. IsPermutation own xs) (sym all) is)
    (subst (λ i. IsPermutation (flat_map (λ k. places_from 0 k kinds) (range_with_len i count))
    (flat_map (λ b. take n (drop 0 b)) (blocks_from kinds (suc j) count))) (sym next) (blocks_are kinds n le (suc j) count))

abbrev at_kind : ℕ → ℕ → ℕ → List ℕ
at_kind here x k = cond (x == k) (here ∷ []) []

never : (here x j count : ℕ) → x < j → flat_map (at_kind here x) (range_with_len j count) ≡ []
never here x j zero lt = refl
never here x j (suc count) lt =
    let apart : (x == j) ≡ false = ne_eqb x j (λ e. absurd (omega (arith, lt, e))) in
    ap (λ t. cond t (here ∷ []) [] ++ flat_map (at_kind here x) (range_with_len (j + 1) count)) apart
    ∙ never here x (j + 1) count (omega (arith, lt))

once : (here x j count : ℕ) → j ≤ x → x < j + count → flat_map (at_kind here x) (range_with_len j count) ≡ here ∷ []
once here x j zero le lt = absurd (omega (arith, le, lt))
once here x j (suc count) le lt = by_test (x == j) refl (λ behind. once here x (j + 1) count behind (omega (arith, lt)))
  where
    by_test : (t : Bool) → (x == j) ≡ t
        → (j + 1 ≤ x → flat_map (at_kind here x) (range_with_len (j + 1) count) ≡ here ∷ [])
        → cond t (here ∷ []) [] ++ flat_map (at_kind here x) (range_with_len (j + 1) count) ≡ here ∷ []
    by_test true e later =
        let is = eqb-true x j e in ap (λ xs. here ∷ xs) (never here x (j + 1) count (omega (arith, is)))
    by_test false e later = let apart : x ≡ j → ⊥ = eqb-false x j e in later (omega (arith, le, apart))

-- each place is that of one kind
kinds_are : (here : ℕ) (kinds : List ℕ) (count : ℕ) → AllByRecursion (λ k. k < count) kinds
    → IsPermutation (range_with_len here (length kinds)) (flat_map (λ k. places_from here k kinds) (range_with_len 0 count))
kinds_are here [] count h = subst (λ xs. IsPermutation [] xs) (sym (nothing (λ k. places_from here k []) (λ k. refl) (range_with_len 0 count))) (IsPermutation-refl [])
kinds_are here (x ∷ xs) count h =
    let all = range_with_len 0 count in
    let others = flat_map (λ k. places_from (suc here) k xs) all in
    let next : here + 1 ≡ suc here = omega arith in
    let first : flat_map (at_kind here x) all ≡ here ∷ [] = once here x 0 count (omega arith) (omega (arith, h.0)) in
    let split : IsPermutation (flat_map (λ k. places_from here k (x ∷ xs)) all) (flat_map (at_kind here x) all ++ others) =
    parts (λ k. places_from here k (x ∷ xs)) (at_kind here x) (λ k. places_from (suc here) k xs) (λ k. refl) all in
    let rest : IsPermutation (here ∷ range_with_len (here + 1) (length xs)) (here ∷ others) =
    IsPermutation-cons here _ _
    (subst (λ i. IsPermutation (range_with_len i (length xs)) others) (sym next) (kinds_are (suc here) xs count h.1)) in
    IsPermutation-trans _ _ _ rest
    (IsPermutation-sym _ _ (subst (λ ys. IsPermutation (flat_map (λ k. places_from here k (x ∷ xs)) all) (ys ++ others)) first split))

pub each_once : EachOnce
unfolding novel
each_once kinds count below =
    let n = length kinds in
    IsPermutation-trans _ _ _ (kinds_are 0 kinds count (recursion_from_All (λ k. k < count) kinds below))
    (IsPermutation-trans _ _ _ (blocks_are kinds n (omega arith) 0 count) (rounds_are (blocks_from kinds 0 count) 0 n))
