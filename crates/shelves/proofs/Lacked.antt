-- What is known of the numbers that a map lacks, as they come and go.
use Rattle.std.proofs.Common.{◌≡◌, ◌≢◌, ℕ, ◌+◌, ◌≤◌, ◌<◌, Bool, true, false, cond, Option, Some, None, refl, sym, ◌∙◌, ap, subst, rules, arith}
use Rattle.std.proofs.lemmas.Bool.Decides.{nat_tests}
use Rattle.std.specs.Prelude.{IsSome, ◌==◌, nat_lt}
use Rattle.std.specs.Ordering.{nat_cmp}
use Rattle.std.specs.Cmp.{nat_cmp_total}
use Rattle.std.specs.FinMap as maps
use Rattle.std.specs.FinMap.{FinMap}
use Rattle.containers.specs.Vacant.{vacant, IsLeastVacant}
use Rattle.containers.proofs.Vacant.{least_is_vacant}
use Rattle.shelves.specs.declared.vacancies.Vacancies.{Vacancies}
use Rattle.shelves.specs.Lacking.{AreVacancies, Knows, taken, left, IsFirstHole}
use Rattle.shelves.proofs.Shelved.{Tells, alike, apart_from, tells}

never : {X : Type 0} (o : Option X) → o ≡ None → IsSome o → ⊥
never None e some = search rules
never (Some x) e some = cc e

pub some_of : {X : Type 0} (o : Option X) (x : X) → o ≡ Some x → IsSome o
some_of None x e = absurd (let no : ⊥ = cc e in no)
some_of (Some y) x e = search rules

-- either there is none, or there is one
decide : {X P : Type 0} (o : Option X) → (o ≡ None → P) → (IsSome o → P) → P
decide None none some = none refl
decide (Some x) none some = some (search rules)

module _ {X : Type 0} where
  -- ---- a map after a number comes, or goes
  put_here : (m : FinMap nat_cmp X) (k : ℕ) (v : X) (q : ℕ) → q ≡ k → maps.get (maps.insert m k v) q ≡ Some v
  put_here m k v q e = elim (tells q k) [
    | alike _ t ↦ maps.get-insert nat_cmp_total m k v q ∙ ap (λ b. cond b (Some v) (maps.get m q)) t
    | apart_from n t ↦ absurd (n e)
  ]

  put_apart : (m : FinMap nat_cmp X) (k : ℕ) (v : X) (q : ℕ) → q ≢ k → maps.get (maps.insert m k v) q ≡ maps.get m q
  put_apart m k v q n = elim (tells q k) [
    | alike e t ↦ absurd (n e)
    | apart_from _ t ↦ maps.get-insert nat_cmp_total m k v q ∙ ap (λ b. cond b (Some v) (maps.get m q)) t
  ]

  gone_here : (m : FinMap nat_cmp X) (k q : ℕ) → q ≡ k → maps.get (maps.remove m k) q ≡ None
  gone_here m k q e = elim (tells q k) [
    | alike _ t ↦ maps.get-remove nat_cmp_total m k q ∙ ap (λ b. cond b None (maps.get m q)) t
    | apart_from n t ↦ absurd (n e)
  ]

  gone_apart : (m : FinMap nat_cmp X) (k q : ℕ) → q ≢ k → maps.get (maps.remove m k) q ≡ maps.get m q
  gone_apart m k q n = elim (tells q k) [
    | alike e t ↦ absurd (n e)
    | apart_from _ t ↦ maps.get-remove nat_cmp_total m k q ∙ ap (λ b. cond b None (maps.get m q)) t
  ]

module _ {V : Type 0} where
  pub none_known : (m : FinMap nat_cmp V) (v : Vacancies) → m ≡ maps.empty → v ≡ record { holes = maps.empty; top = 0; known = true } → AreVacancies m v
  none_known m v e f = record {
    above = λ q l. ap (λ t. maps.get t q) e ∙ maps.get-empty nat_cmp q;
    lacks = λ q some. absurd (never (maps.get v.holes q) (ap (λ (w : Vacancies). maps.get w.holes q) f ∙ maps.get-empty nat_cmp q) some);
    has = λ q l none. let t : v.top ≡ 0 = ap (λ (w : Vacancies). w.top) f in absurd (omega (arith, l, t));
  }

  -- ---- a number comes
  taken_hole : (m : FinMap nat_cmp V) (v : Vacancies) (n : ℕ) (x : V) → AreVacancies m v → n < v.top → AreVacancies (maps.insert m n x) (record v { holes = maps.remove v.holes n })
  taken_hole m v n x are lt = record {
    above = λ q l. put_apart m n x q (λ e. omega (arith, e, l, lt)) ∙ are.above q l;
    lacks = λ q some. elim (tells q n) [
      | alike e t ↦ absurd (never (maps.get (maps.remove v.holes n) q) (gone_here v.holes n q e) some)
      | apart_from a t ↦
          let here = are.lacks q (subst IsSome (gone_apart v.holes n q a) some) in
          (here.0, put_apart m n x q a ∙ here.1)
    ];
    has = λ q l none. elim (tells q n) [
      | alike e t ↦ some_of _ x (put_here m n x q e)
      | apart_from a t ↦ subst IsSome (sym (put_apart m n x q a)) (are.has q l (sym (gone_apart v.holes n q a) ∙ none))
    ];
  }

  taken_top : (m : FinMap nat_cmp V) (v : Vacancies) (n : ℕ) (x : V) → AreVacancies m v → n ≡ v.top → AreVacancies (maps.insert m n x) (record v { top = n + 1 })
  taken_top m v n x are is = record {
    above = λ q l. put_apart m n x q (λ e. omega (arith, e, l)) ∙ are.above q (omega (arith, l, is));
    lacks = λ q some.
        let here = are.lacks q some in
        let low = here.0 in
        (omega (arith, low, is), put_apart m n x q (λ e. omega (arith, e, low, is)) ∙ here.1);
    has = λ q l none. elim (tells q n) [
      | alike e t ↦ some_of _ x (put_here m n x q e)
      | apart_from a t ↦ subst IsSome (sym (put_apart m n x q a)) (are.has q (grind (arith, a, l, is)) none)
    ];
  }

  pub taken_known : (m : FinMap nat_cmp V) (v w : Vacancies) (n : ℕ) (x : V) → Knows m v → (w.known ≡ true → v.known ≡ true) → (w.known ≡ true → n ≤ v.top) → (w.known ≡ true → w ≡ taken v n) → Knows (maps.insert m n x) w
  taken_known m v w n x knows known within is k =
      subst (AreVacancies (maps.insert m n x)) (sym (is k)) (go (nat_lt n v.top) refl)
    where
      go : (b : Bool) → nat_lt n v.top ≡ b → AreVacancies (maps.insert m n x) (cond b (record v { holes = maps.remove v.holes n }) (record v { top = n + 1 }))
      go true h = taken_hole m v n x (knows (known k)) (grind (arith, nat_tests, h))
      go false h = let le : n ≤ v.top = within k in taken_top m v n x (knows (known k)) (grind (arith, nat_tests, h, le))

  -- ---- a number goes
  left_top : (m : FinMap nat_cmp V) (v : Vacancies) (n : ℕ) → AreVacancies m v → IsSome (maps.get m n) → n + 1 ≡ v.top → AreVacancies (maps.remove m n) (record v { top = n })
  left_top m v n are there is = record {
    above = λ q l. elim (tells q n) [
      | alike e t ↦ gone_here m n q e
      | apart_from a t ↦ gone_apart m n q a ∙ are.above q (grind (arith, a, l, is))
    ];
    lacks = λ q some.
        let here = are.lacks q some in
        let low = here.0 in
        let apart : q ≢ n = λ e. never (maps.get m n) (ap (maps.get m) (sym e) ∙ here.1) there in
        (grind (arith, low, is, apart), gone_apart m n q apart ∙ here.1);
    has = λ q l none.
        let apart : q ≢ n = λ e. omega (arith, e, l) in
        subst IsSome (sym (gone_apart m n q apart)) (are.has q (omega (arith, l, is)) none);
  }

  left_hole : (m : FinMap nat_cmp V) (v : Vacancies) (n : ℕ) → AreVacancies m v → n < v.top → AreVacancies (maps.remove m n) (record v { holes = maps.insert v.holes n tt })
  left_hole m v n are lt = record {
    above = λ q l. gone_apart m n q (λ e. omega (arith, e, l, lt)) ∙ are.above q l;
    lacks = λ q some. elim (tells q n) [
      | alike e t ↦ (subst (λ (k : ℕ). k < v.top) (sym e) lt, gone_here m n q e)
      | apart_from a t ↦
          let here = are.lacks q (subst IsSome (put_apart v.holes n tt q a) some) in
          (here.0, gone_apart m n q a ∙ here.1)
    ];
    has = λ q l none.
        let apart : q ≢ n = λ e. never (maps.get (maps.insert v.holes n tt) q) none (some_of _ tt (put_here v.holes n tt q e)) in
        subst IsSome (sym (gone_apart m n q apart)) (are.has q l (sym (put_apart v.holes n tt q apart) ∙ none));
  }

  pub left_known : (m : FinMap nat_cmp V) (v w : Vacancies) (n : ℕ) → Knows m v → IsSome (maps.get m n) → (w.known ≡ true → v.known ≡ true) → (w.known ≡ true → n < v.top) → (w.known ≡ true → w ≡ left v n) → Knows (maps.remove m n) w
  left_known m v w n knows there known within is k =
      subst (AreVacancies (maps.remove m n)) (sym (is k)) (go (n + 1 == v.top) refl)
    where
      go : (b : Bool) → (n + 1 == v.top) ≡ b → AreVacancies (maps.remove m n) (cond b (record v { top = n }) (record v { holes = maps.insert v.holes n tt }))
      go true h = left_top m v n (knows (known k)) there (grind (arith, nat_tests, h))
      go false h = left_hole m v n (knows (known k)) (within k)

  -- ---- the least
  full : (m : FinMap nat_cmp V) (v : Vacancies) (n : ℕ) → AreVacancies m v → IsFirstHole v n → n ≤ v.top → (q : ℕ) → q < n → IsSome (maps.get m q)
  full m v n are first l q lt = are.has q (omega (arith, l, lt)) (first.before q lt)

  least_of : (m : FinMap nat_cmp V) (v : Vacancies) (n : ℕ) → AreVacancies m v → IsFirstHole v n → IsLeastVacant m n
  least_of m v n are first =
      decide (maps.get v.holes n)
      (λ h. let top : n ≡ v.top = first.is h in (are.above n (omega (arith, top)), full m v n are first (omega (arith, top))))
      (λ some. let here = are.lacks n some in let low = here.0 in (here.1, full m v n are first (omega (arith, low))))

  pub first_hole_vacant : (m : FinMap nat_cmp V) (v : Vacancies) (n : ℕ) → Knows m v → IsFirstHole v n → n ≡ vacant m
  first_hole_vacant m v n knows first = least_is_vacant m n (least_of m v n (knows first.known) first)

  -- a key after its value was written
  written : (m : FinMap nat_cmp V) (v : Vacancies) (k : ℕ) (x : V) → AreVacancies m v → IsSome (maps.get m k) → AreVacancies (maps.insert m k x) v
  written m v k x are there = record {
    above = λ q l. put_apart m k x q (λ e. never (maps.get m k) (are.above k (subst (λ (j : ℕ). v.top ≤ j) e l)) there) ∙ are.above q l;
    lacks = λ q some.
        let here = are.lacks q some in
        (here.0, put_apart m k x q (λ e. never (maps.get m k) (ap (maps.get m) (sym e) ∙ here.1) there) ∙ here.1);
    has = λ q l none. elim (tells q k) [
      | alike e t ↦ some_of _ x (put_here m k x q e)
      | apart_from a t ↦ subst IsSome (sym (put_apart m k x q a)) (are.has q l none)
    ];
  }

  pub known_again : (m n : FinMap nat_cmp V) (v : Vacancies) (k : ℕ) (x : V) → Knows m v → IsSome (maps.get m k) → n ≡ maps.insert m k x → Knows n v
  known_again m n v k x knows there is known = subst (λ t. AreVacancies t v) (sym is) (written m v k x (knows known) there)

  -- a number that isn't there goes
  pub unplaced : (m : FinMap nat_cmp V) (v : Vacancies) (k : ℕ) → Knows m v → None ≡ maps.get m k → Knows (maps.remove m k) v
  unplaced m v k knows none = subst (λ t. Knows t v) (sym (maps.same_map nat_cmp_total maps.nat_cmp-IsAntisymmetric _ _ (λ q. by_number q (tells q k)))) knows
    where
      by_number : (q : ℕ) → Tells q k → maps.get (maps.remove m k) q ≡ maps.get m q
      by_number q (alike e t) = gone_here m k q e ∙ none ∙ ap (maps.get m) (sym e)
      by_number q (apart_from n t) = gone_apart m k q n
