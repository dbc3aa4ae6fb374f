-- The first gap among rising keys is the least number that is no key.
use Rattle.std.proofs.Common.{◌≡◌, ℕ, ◌+◌, ◌<◌, ◌≤◌, List, [], ◌∷◌, Bool, true, false, cond, ◌&&◌, T, Option, Some, None, refl, ap, sym, subst, ◌∙◌, rules, arith}
use Rattle.std.proofs.lemmas.Bool.Decides.{nat_tests}
use Rattle.std.specs.Prelude.{◌==◌, nat_lt, IsSome}
use Rattle.std.specs.Ordering.{nat_cmp, eq_by_cmp, is_eq, is_lt}
use Rattle.std.specs.Cmp.{ranked}
use Rattle.std.specs.declared.cmp.Ordering.{Ordering}
use Rattle.std.specs.declared.cmp.Ordering.TheVariants.{Less, Equal, Greater}
use Rattle.std.specs.FinMap as maps
use Rattle.std.specs.FinMap.{FinMap}
use Rattle.std.specs.FinMap.Entries.{find, below_all, is_sorted}
use Rattle.containers.specs.Vacant.{first_gap, vacant, IsFullBelow, IsLeastVacant}

first : (a b : Bool) → T (a && b) → T a
first true b h = tt
first false b h = h

second : (a b : Bool) → T (a && b) → T b
second true b h = h
second false b h = absurd h

less : (o : Ordering) → T (is_lt o) → o ≡ Less
less Less h = refl
less Equal h = absurd h
less Greater h = absurd h

same : (q k : ℕ) → eq_by_cmp nat_cmp q k ≡ (k == q)
same q k = grind (arith, nat_tests)

unlike : (q k : ℕ) → ¬ (q ≡ k) → eq_by_cmp nat_cmp q k ≡ false
unlike q k other = same q k ∙ (let e : (k == q) ≡ false = grind (arith, nat_tests, other) in e)

alike : (q k : ℕ) → q ≡ k → eq_by_cmp nat_cmp q k ≡ true
alike q k is = same q k ∙ (let e : (k == q) ≡ true = grind (arith, nat_tests, is) in e)

module _ {X : Type 0} where
  -- the first key is n or above
  abbrev starts : ℕ → List (ℕ × X) → Type 0
  starts n [] = Unit {0}
  starts n (e ∷ es) = n ≤ e.0

  next : (k : ℕ) (es : List (ℕ × X)) → T (below_all nat_cmp k es) → starts (k + 1) es
  next k [] h = tt
  next k (e ∷ es) h = let lt : k < e.0 = ranked k e.0 Less (sym (less _ (first _ _ h))) in omega (arith, lt)

  none_before : (q n : ℕ) (es : List (ℕ × X)) → T (is_sorted nat_cmp es) → starts n es → q < n → find nat_cmp q es ≡ None
  none_before q n [] s st lt = refl
  none_before q n (e ∷ es) s st lt =
      ap (λ b. cond b (Some e.1) (find nat_cmp q es)) (unlike q e.0 (λ is. omega (arith, is, st, lt)))
      ∙ none_before q (e.0 + 1) es (second _ _ s) (next e.0 es (first _ _ s)) (omega (arith, st, lt))

  record IsGap (n r : ℕ) (es : List (ℕ × X)) : Type 0 where
    from : n ≤ r
    none : find nat_cmp r es ≡ None
    full : (q : ℕ) → n ≤ q → q < r → IsSome (find nat_cmp q es)

  gap : (n : ℕ) (es : List (ℕ × X)) → T (is_sorted nat_cmp es) → starts n es → IsGap n (first_gap es n) es
  gap n [] s st = record { from = omega arith; none = refl; full = λ q le lt. absurd (omega (arith, le, lt)) }
  gap n (e ∷ es) s st = go (e.0 == n) refl (gap (n + 1) es (second _ _ s))
    where
      there : (q : ℕ) (b : Bool) → eq_by_cmp nat_cmp q e.0 ≡ b → (b ≡ false → IsSome (find nat_cmp q es)) → IsSome (find nat_cmp q (e ∷ es))
      there q true is rest = subst (λ c. IsSome (cond c (Some e.1) (find nat_cmp q es))) (sym is) (search rules)
      there q false is rest = subst (λ c. IsSome (cond c (Some e.1) (find nat_cmp q es))) (sym is) (rest refl)

      go : (b : Bool) → (e.0 == n) ≡ b → (starts (n + 1) es → IsGap (n + 1) (first_gap es (n + 1)) es) → IsGap n (cond b (first_gap es (n + 1)) n) (e ∷ es)
      go false h rest =
          let le : n ≤ e.0 = st in let lt : n < e.0 = grind (arith, nat_tests, h, le) in
          record { from = omega arith; none = none_before n e.0 (e ∷ es) s (omega arith) lt; full = λ q le less. absurd (omega (arith, le, less)) }
      go true h rest =
          let is : e.0 ≡ n = grind (arith, nat_tests, h) in
          let r = rest (subst (λ k. starts (k + 1) es) is (next e.0 es (first _ _ s))) in
          let above = r.from in record {
            from = omega (arith, above);
            none = ap (λ b. cond b (Some e.1) (find nat_cmp (first_gap es (n + 1)) es)) (unlike (first_gap es (n + 1)) e.0 (λ eq. omega (arith, eq, is, above))) ∙ r.none;
            full = λ q le lt. there q (eq_by_cmp nat_cmp q e.0) refl (λ other. r.full q (grind (arith, nat_tests, le, is, other)) lt);
          }

  first_start : (es : List (ℕ × X)) → starts 0 es
  first_start [] = tt
  first_start (e ∷ es) = omega arith

  pub vacant_is_least : (m : FinMap nat_cmp X) → IsLeastVacant m (vacant m)
  unfolding vacant
  vacant_is_least m =
      let g = gap 0 (maps.entries m) (maps.entries_sorted m) (first_start (maps.entries m)) in (
        maps.get-entries m (first_gap (maps.entries m) 0) ∙ g.none,
        λ q lt. subst IsSome (sym (maps.get-entries m q)) (g.full q (omega arith) lt),
      )

  never : (o : Option X) → o ≡ None → IsSome o → ⊥
  never None e some = search rules
  never (Some x) e some = cc e

  by_order : (m : FinMap nat_cmp X) (n v : ℕ) → IsLeastVacant m n → IsLeastVacant m v → n ≡ v
  by_order m n v a b = go (nat_lt n v) refl (nat_lt v n) refl
    where
      go : (b : Bool) → nat_lt n v ≡ b → (c : Bool) → nat_lt v n ≡ c → n ≡ v
      go true h c k = absurd (never (maps.get m n) a.0 (b.1 n (grind (arith, nat_tests, h))))
      go false h true k = absurd (never (maps.get m v) b.0 (a.1 v (grind (arith, nat_tests, k))))
      go false h false k = grind (arith, nat_tests, h, k)

  pub least_is_vacant : (m : FinMap nat_cmp X) (n : ℕ) → IsLeastVacant m n → n ≡ vacant m
  least_is_vacant m n least = by_order m n (vacant m) least (vacant_is_least m)
