-- The first key of a map that passes a test.
use Rattle.std.proofs.Common.{◌≡◌, ℕ, zero, suc, ◌<◌, ◌≤◌, Bool, true, false, cond, ◌&&◌, T, List, [], ◌∷◌, map, Option, Some, None, is_some, refl, ap, sym, subst, ◌∙◌, arith}
use Rattle.std.specs.Prelude.{nat_lt, find}
use Rattle.std.specs.Ordering.{nat_cmp, is_lt, eq_by_cmp}
use Rattle.std.specs.FinMap as maps
use Rattle.std.specs.FinMap.Entries as entry
use Rattle.std.proofs.lemmas.Bool.Decides.{nat_tests}
use Rattle.lx_proc.specs.Pairs.{IsNextThat}

pub left : (a b : Bool) → T (a && b) → T a
left true b h = tt
left false b h = h

pub right : (a b : Bool) → T (a && b) → T b
right true b h = h
right false b h = absurd h

lower_if : (k j : ℕ) (b : Bool) → nat_lt k j ≡ b → T (is_lt (nat_cmp k j)) → k < j
lower_if k j true e h = grind (arith, nat_tests)
lower_if k j false e h = absurd (subst T (let fails : is_lt (nat_cmp k j) ≡ false = grind (arith, nat_tests) in fails) h)

pub lower : (k j : ℕ) → T (is_lt (nat_cmp k j)) → k < j
lower k j h = lower_if k j (nat_lt k j) refl h

pub differ : (n k : ℕ) → n < k → eq_by_cmp nat_cmp n k ≡ false
differ n k h = grind (arith, nat_tests)

pub differ_above : (n k : ℕ) → k < n → eq_by_cmp nat_cmp n k ≡ false
differ_above n k h = grind (arith, nat_tests)

pub same : (n : ℕ) → eq_by_cmp nat_cmp n n ≡ true
same n = grind (arith, nat_tests)

module _ (test : ℕ → Bool) where
  pub none_found : ((q : ℕ) → test q ≡ false) → (ks : List ℕ) → find test ks ≡ None
  none_found fails [] = refl
  none_found fails (k ∷ ks) = ap (λ b. cond b (Some k) (find test ks)) (fails k) ∙ none_found fails ks

  below_one : test 0 ≡ false → (n : ℕ) → ((q : ℕ) → 0 < q → q < n → test q ≡ false) → (q : ℕ) → q < n → test q ≡ false
  below_one fails n above zero h = fails
  below_one fails n above (suc q) h = above (suc q) (omega arith) h

  all_fail : test 0 ≡ false → ((q : ℕ) → 0 < q → test q ≡ false) → (q : ℕ) → test q ≡ false
  all_fail fails h zero = fails
  all_fail fails h (suc q) = h (suc q) (omega arith)

module _ {X : Type 0} where
  pub skip : (n : ℕ) (e : ℕ × X) (es : List (ℕ × X)) → eq_by_cmp nat_cmp n e.0 ≡ false → entry.find nat_cmp n (e ∷ es) ≡ entry.find nat_cmp n es
  skip n e es fails = ap (λ b. cond b (Some e.1) (entry.find nat_cmp n es)) fails

  -- nothing stands below the keys of entries
  pub not_below : (n k : ℕ) (es : List (ℕ × X)) → n ≤ k → T (entry.below_all nat_cmp k es) → is_some (entry.find nat_cmp n es) ≡ false
  not_below n k [] le h = refl
  not_below n k (e ∷ es) le h =
      let lt = lower k e.0 (left _ _ h) in
      ap is_some (skip n e es (differ n e.0 (omega (arith, lt, le)))) ∙ not_below n k es le (right _ _ h)

  pub never : {P : Type 0} (o : Option X) → is_some o ≡ true → is_some o ≡ false → P
  never None h e = absurd (cc h)
  never (Some x) h e = absurd (cc e)

  module _ (test : ℕ → Bool) where
    first_here : (n : ℕ) (e : ℕ × X) (es : List (ℕ × X)) → test n ≡ true → n ≡ e.0 → find test (map (λ e. e.0) (e ∷ es)) ≡ Some n
    first_here n e es holds here = ap (λ b. cond b (Some e.0) (find test (map (λ e. e.0) es))) (ap test (sym here) ∙ holds) ∙ ap (λ k. Some k) (sym here)

    first_later : (n : ℕ) (e : ℕ × X) (es : List (ℕ × X)) → test e.0 ≡ false → find test (map (λ e. e.0) es) ≡ Some n → find test (map (λ e. e.0) (e ∷ es)) ≡ Some n
    first_later n e es fails rest = ap (λ b. cond b (Some e.0) (find test (map (λ e. e.0) es))) fails ∙ rest

    first_step : (n : ℕ) → test n ≡ true → ((q : ℕ) → q < n → test q ≡ false) → (e : ℕ × X) (es : List (ℕ × X)) → T (entry.below_all nat_cmp e.0 es) → is_some (entry.find nat_cmp n (e ∷ es)) ≡ true →
        (is_some (entry.find nat_cmp n es) ≡ true → find test (map (λ e. e.0) es) ≡ Some n) → (a : Bool) → nat_lt e.0 n ≡ a → (b : Bool) → nat_lt n e.0 ≡ b → find test (map (λ e. e.0) (e ∷ es)) ≡ Some n
    first_step n holds fails e es s h rest true lt b o =
        let below : e.0 < n = grind (arith, nat_tests) in
        first_later n e es (fails e.0 below) (rest (ap is_some (sym (skip n e es (differ_above n e.0 below))) ∙ h))
    first_step n holds fails e es s h rest false ge true lt =
        let above : n < e.0 = grind (arith, nat_tests) in
        never (entry.find nat_cmp n es) (ap is_some (sym (skip n e es (differ n e.0 above))) ∙ h) (not_below n e.0 es (omega (arith, above)) s)
    first_step n holds fails e es s h rest false ge false le = first_here n e es holds (let here : n ≡ e.0 = grind (arith, nat_tests) in here)

    first_found : (n : ℕ) → test n ≡ true → ((q : ℕ) → q < n → test q ≡ false) → (es : List (ℕ × X)) → T (entry.is_sorted nat_cmp es) →
        is_some (entry.find nat_cmp n es) ≡ true → find test (map (λ e. e.0) es) ≡ Some n
    first_found n holds fails [] s h = absurd (cc h)
    first_found n holds fails (e ∷ es) s h =
        first_step n holds fails e es (left _ _ s) h (λ there. first_found n holds fails es (right _ _ s) there) (nat_lt e.0 n) refl (nat_lt n e.0) refl

    pub found : (m : maps.FinMap nat_cmp X) (n : ℕ) → is_some (maps.get m n) ≡ true → test n ≡ true → ((q : ℕ) → q < n → test q ≡ false) → find test (maps.keys m) ≡ Some n
    found m n there holds fails = first_found n holds fails (maps.entries m) (maps.entries_sorted m) (ap is_some (sym (maps.get-entries m n)) ∙ there)

    -- key 0 was looked at, and then those above it
    pub first_of_all : (m : maps.FinMap nat_cmp X) → ((q : ℕ) → test q ≡ true → is_some (maps.get m q) ≡ true) → (r : Option ℕ) → test 0 ≡ false → IsNextThat test 0 r → r ≡ find test (maps.keys m)
    first_of_all m there None fails h = sym (none_found test (all_fail test fails h) (maps.keys m))
    first_of_all m there (Some n) fails h = sym (found m n (there n h.1) h.1 (below_one test fails n h.2))

    pub first_zero : (m : maps.FinMap nat_cmp X) → ((q : ℕ) → test q ≡ true → is_some (maps.get m q) ≡ true) → test 0 ≡ true → Some 0 ≡ find test (maps.keys m)
    first_zero m there holds = sym (found m 0 (there 0 holds) holds (λ q h. absurd (omega (arith, h))))
