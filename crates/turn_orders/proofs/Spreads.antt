-- Places that are spread over a list are all of them, each once.
use Rattle.std.proofs.Common.{◌≡◌, ◌<◌, ◌≤◌, ◌+◌, ◌-◌, ◌/◌, ◌++◌, ℕ, zero, suc, Bool, true, false, cond, List, [], ◌∷◌, length, map, get_or, nat_lt, flat_map, slice_get, option_to_list, All, IsPermutation, refl, sym, ap, ap₂, subst, ◌∙◌, arith, append_assoc, append-nil}
use Rattle.std.specs.List.{range_with_len, AllByRecursion}
use Rattle.std.proofs.lemmas.Bool.{ltb-true, ltb-false, lt-ltb}
use Rattle.std.proofs.lemmas.List.{nil_from_length}
use Rattle.std.proofs.lemmas.List.Elements.{recursion_from_All}
use Rattle.std.proofs.lemmas.List.FromFn.{length-range_with_len, get_or-range_with_len, fill_by_all}
use Rattle.std.proofs.lemmas.List.Sorted.{IsPermutation-refl, IsPermutation-trans, IsPermutation-cons, IsPermutation-middle, IsPermutation-to_front, IsPermutation-append_left, IsPermutation-append_comm, IsPermutation-map, All-permutation, length_permutation}
use Rattle.turn_orders.specs.Novelty.{spread_over}
use Rattle.turn_orders.specs.Places.{gap_between, halves, middles, spread}
use Rattle.turn_orders.specs.declared.places.Gap.{Gap}

-- numbers in a row, in two parts
ranges : (a m k : ℕ) → range_with_len a (m + k) ≡ range_with_len a m ++ range_with_len (a + m) k
ranges a zero k =
    ap (range_with_len a) (let e : 0 + k ≡ k = omega arith in e)
    ∙ ap (λ x. range_with_len x k) (let e : a ≡ a + 0 = omega arith in e)
ranges a (suc m) k =
    ap (range_with_len a) (let e : suc m + k ≡ suc (m + k) = omega arith in e)
    ∙ ap (λ xs. a ∷ xs) (ranges (a + 1) m k
    ∙ ap (λ x. range_with_len (a + 1) m ++ range_with_len x k) (let e : (a + 1) + m ≡ a + suc m = omega arith in e))

-- the places between two
abbrev between : ℕ → ℕ → List ℕ
between a b = range_with_len (a + 1) (b - a - 1)

abbrev interior : Gap → List ℕ
interior g = between g.from g.to

abbrev IsGap : Gap → Type 0
IsGap g = (g.from < g.middle) × (g.middle < g.to)

gaps_are : (a b : ℕ) → AllByRecursion IsGap (gap_between a b)
gaps_are a b = by_test (nat_lt 1 (b - a)) refl
  where
    by_test : (t : Bool) → nat_lt 1 (b - a) ≡ t
        → AllByRecursion IsGap (cond t (record { from = a; middle = a + (b - a) / 2; to = b } ∷ []) [])
    by_test true e = let wide = ltb-true 1 (b - a) e in ((omega (arith, wide), omega (arith, wide)), tt)
    by_test false e = tt

all_joined : (gs hs : List Gap) → AllByRecursion IsGap gs → AllByRecursion IsGap hs → AllByRecursion IsGap (gs ++ hs)
all_joined [] hs a b = b
all_joined (g ∷ gs) hs a b = (a.0, all_joined gs hs a.1 b)

abbrev interiors : List Gap → List ℕ
interiors gs = flat_map interior gs

interiors_joined : (gs hs : List Gap) → interiors (gs ++ hs) ≡ interiors gs ++ interiors hs
interiors_joined [] hs = refl
interiors_joined (g ∷ gs) hs =
    ap (λ xs. interior g ++ xs) (interiors_joined gs hs) ∙ sym (append_assoc (interior g) (interiors gs) (interiors hs))

interiors_between : (a b : ℕ) → interiors (gap_between a b) ≡ between a b
interiors_between a b = by_test (nat_lt 1 (b - a)) refl
  where
    by_test : (t : Bool) → nat_lt 1 (b - a) ≡ t
        → interiors (cond t (record { from = a; middle = a + (b - a) / 2; to = b } ∷ []) []) ≡ between a b
    by_test true e = append-nil (between a b)
    by_test false e =
        let narrow = ltb-false 1 (b - a) e in
        let none : 0 ≡ b - a - 1 = omega (arith, narrow) in
        ap (range_with_len (a + 1)) none

-- a gap is its middle and those on both sides
parted : (g : Gap) → IsGap g → interior g ≡ between g.from g.middle ++ g.middle ∷ between g.middle g.to
parted g is =
    let before = g.middle - g.from - 1 in
    let behind = g.to - g.middle - 1 in
    let all : g.to - g.from - 1 ≡ before + suc behind = omega (arith, is.0, is.1) in
    let here : (g.from + 1) + before ≡ g.middle = omega (arith, is.0) in
    ap (range_with_len (g.from + 1)) all ∙ ranges (g.from + 1) before (suc behind)
    ∙ ap (λ x. between g.from g.middle ++ range_with_len x (suc behind)) here

halved : (g : Gap) → interiors (halves g) ≡ between g.from g.middle ++ between g.middle g.to
halved g =
    interiors_joined (gap_between g.from g.middle) (gap_between g.middle g.to)
    ∙ ap₂ (λ xs ys. xs ++ ys) (interiors_between g.from g.middle) (interiors_between g.middle g.to)

-- the middle of the first gap comes, and its halves wait behind the others
one_middle_out : (g : Gap) (gs : List Gap) → IsGap g
    → IsPermutation (interiors (g ∷ gs)) (g.middle ∷ interiors (gs ++ halves g))
one_middle_out g gs is =
    let low = between g.from g.middle in
    let high = between g.middle g.to in
    let others = interiors gs in
    let first : IsPermutation ((low ++ g.middle ∷ high) ++ others) (g.middle ∷ ((low ++ high) ++ others)) =
    IsPermutation-append_left others (low ++ g.middle ∷ high) (g.middle ∷ (low ++ high)) (IsPermutation-middle low g.middle high) in
    let second : IsPermutation (g.middle ∷ ((low ++ high) ++ others)) (g.middle ∷ (others ++ (low ++ high))) =
    IsPermutation-cons g.middle _ _ (IsPermutation-append_comm (low ++ high) others) in
    let last : others ++ (low ++ high) ≡ interiors (gs ++ halves g) =
    ap (λ xs. others ++ xs) (sym (halved g)) ∙ sym (interiors_joined gs (halves g)) in
    subst (λ xs. IsPermutation (xs ++ others) (g.middle ∷ interiors (gs ++ halves g))) (sym (parted g is))
    (subst (λ xs. IsPermutation ((low ++ g.middle ∷ high) ++ others) (g.middle ∷ xs)) last
    (IsPermutation-trans _ _ _ first second))

middles_are : (n : ℕ) (gs : List Gap) → AllByRecursion IsGap gs → length (interiors gs) ≤ n
    → IsPermutation (interiors gs) (middles n gs)
middles_are zero gs are few =
    let none : interiors gs ≡ [] = nil_from_length (interiors gs) (omega (arith, few)) in
    subst (λ xs. IsPermutation xs []) (sym none) (IsPermutation-refl [])
middles_are (suc n) [] are few = IsPermutation-refl []
middles_are (suc n) (g ∷ gs) are few =
    let first = one_middle_out g gs are.0 in
    let long : length (g.middle ∷ interiors (gs ++ halves g)) ≡ length (interiors (g ∷ gs)) = length_permutation _ _ first in
    let fewer : length (interiors (gs ++ halves g)) ≤ n = omega (arith, few, long) in
    let ok = all_joined gs (halves g) are.1
    (all_joined (gap_between g.from g.middle) (gap_between g.middle g.to) (gaps_are g.from g.middle) (gaps_are g.middle g.to)) in
    IsPermutation-trans _ _ _ first (IsPermutation-cons g.middle _ _ (middles_are n (gs ++ halves g) ok fewer))

spread_many : (n k : ℕ) → n ≡ suc (suc k) → IsPermutation (range_with_len 0 n) (spread n)
unfolding spread
spread_many n k is =
    let last = n - 1 in
    let inner = range_with_len 1 k in
    let gaps = gap_between 0 last in
    let rest = middles n gaps in
    let within : interiors gaps ≡ inner =
    interiors_between 0 last ∙ ap (range_with_len 1) (let e : last - 0 - 1 ≡ k = omega (arith, is) in e) in
    let long : length (interiors gaps) ≡ k = ap length within ∙ length-range_with_len 1 k in
    let them : IsPermutation inner rest =
    subst (λ xs. IsPermutation xs rest) within (middles_are n gaps (gaps_are 0 last) (omega (arith, long, is))) in
    let all : range_with_len 0 n ≡ 0 ∷ (inner ++ last ∷ []) =
    ap (range_with_len 0) is
    ∙ ap (λ xs. 0 ∷ xs) (ap (range_with_len 1) (let e : suc k ≡ k + 1 = omega arith in e) ∙ ranges 1 k 1
    ∙ ap (λ x. inner ++ x ∷ []) (let e : 1 + k ≡ last = omega (arith, is) in e)) in
    let told : spread n ≡ 0 ∷ last ∷ rest =
    ap₂ (λ a b. (cond a (0 ∷ []) [] ++ cond b (last ∷ []) []) ++ rest) (lt-ltb 0 n (omega (arith, is))) (lt-ltb 1 n (omega (arith, is))) in
    subst (λ xs. IsPermutation xs (spread n)) (sym all)
    (subst (λ ys. IsPermutation (0 ∷ (inner ++ last ∷ [])) ys) (sym told)
    (IsPermutation-cons 0 _ _
    (IsPermutation-trans _ _ _ (IsPermutation-to_front inner last) (IsPermutation-cons last _ _ them))))

pub spread_is : (n : ℕ) → IsPermutation (range_with_len 0 n) (spread n)
unfolding spread
spread_is zero = IsPermutation-refl []
spread_is (suc zero) = IsPermutation-refl (0 ∷ [])
spread_is (suc (suc k)) = spread_many (suc (suc k)) k refl

-- the elements in some places
module _ {X : Type 0} where
  element_at : (d : X) (xs : List X) (p : ℕ) → p < length xs → option_to_list (slice_get xs p) ≡ get_or xs p d ∷ []
  element_at d [] p lt = absurd (omega (arith, lt))
  element_at d (x ∷ xs) zero lt = refl
  element_at d (x ∷ xs) (suc p) lt = element_at d xs p (omega (arith, lt))

  elements_are : (d : X) (xs : List X) (ps : List ℕ) → AllByRecursion (λ p. p < length xs) ps
      → flat_map (λ p. option_to_list (slice_get xs p)) ps ≡ map (λ p. get_or xs p d) ps
  elements_are d xs [] h = refl
  elements_are d xs (p ∷ ps) h = ap₂ (λ ys zs. ys ++ zs) (element_at d xs p h.0) (elements_are d xs ps h.1)

all_below : (n : ℕ) → All (λ p. p < n) (range_with_len 0 n)
all_below n k d lt =
    let long = length-range_with_len 0 n in
    let small : k < n = omega (arith, lt, long) in
    let is = get_or-range_with_len 0 n k d small in
    omega (arith, is, small)

module _ {X : Type 0} where
  placed_by : (d : X) (xs : List X) (ps : List ℕ) → IsPermutation (range_with_len 0 (length xs)) ps
      → IsPermutation xs (flat_map (λ p. option_to_list (slice_get xs p)) ps)
  placed_by d xs ps all =
      let n = length xs in
      let at : ℕ → X = λ p. get_or xs p d in
      let below : AllByRecursion (λ p. p < n) ps =
      recursion_from_All (λ p. p < n) ps (All-permutation (λ p. p < n) (range_with_len 0 n) ps all (all_below n)) in
      let own : xs ≡ map at (range_with_len 0 n) = fill_by_all at xs n d refl (λ k lt. refl) in
      subst (λ ys. IsPermutation ys (flat_map (λ p. option_to_list (slice_get xs p)) ps)) (sym own)
      (subst (λ ys. IsPermutation (map at (range_with_len 0 n)) ys) (sym (elements_are d xs ps below))
      (IsPermutation-map at (range_with_len 0 n) ps all))

  -- in all places, each once, all elements are
  pub all_placed : (xs : List X) (ps : List ℕ) → IsPermutation (range_with_len 0 (length xs)) ps
      → IsPermutation xs (flat_map (λ p. option_to_list (slice_get xs p)) ps)
  all_placed [] ps all =
      let empty : List X = [] in
      let none : ps ≡ [] = nil_from_length ps (length_permutation [] ps all) in
      subst (λ qs. IsPermutation empty (flat_map (λ p. option_to_list (slice_get empty p)) qs)) (sym none)
      (IsPermutation-refl empty)
  all_placed (x ∷ xs) ps all = placed_by x (x ∷ xs) ps all

pub spread_over_is : (xs : List ℕ) → IsPermutation xs (spread_over xs)
spread_over_is xs = all_placed xs (spread (length xs)) (spread_is (length xs))
