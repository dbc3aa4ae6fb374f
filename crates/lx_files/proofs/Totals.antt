-- Sums over what a map holds, once an entry is put in or taken out.
use Rattle.std.proofs.Common.{◌≡◌, ℕ, ◌+◌, ◌-◌, List, [], ◌∷◌, Bool, true, false, cond, ◌&&◌, T, Option, Some, None, refl, ap, sym, subst, ◌∙◌, arith, length}
use Rattle.std.specs.declared.cmp.Ordering.{Ordering}
use Rattle.std.specs.declared.cmp.Ordering.TheVariants.{Less, Equal, Greater}
use Rattle.std.specs.Ordering.{eq_by_cmp, is_eq, is_lt}
use Rattle.std.specs.Cmp.{IsTotalOrder, tied_itself}
use Rattle.std.specs.FinMap as maps
use Rattle.std.specs.FinMap.{FinMap}
use Rattle.std.specs.FinMap.Entries.{find, put, below_all, is_sorted}
use Rattle.lx_files.specs.declared.counts.Counts.{Counts}
use Rattle.lx_files.specs.Tallies.{sum_of, total, weight, one_if, how_many, count_of, Agree, Forgets}

first : (a b : Bool) → T (a && b) → T a
first true b h = tt
first false b h = h

second : (a b : Bool) → T (a && b) → T b
second true b h = h
second false b h = absurd h

both : (a b : Bool) → T a → T b → T (a && b)
both true b h k = k
both false b h k = h

less : (o : Ordering) → T (is_lt o) → o ≡ Less
less Less h = refl
less Equal h = absurd h
less Greater h = absurd h

module _ {K X : Type 0} {R : K → K → Ordering} (o : IsTotalOrder R) (f : X → ℕ) where
  find_below : (q : K) (es : List (K × X)) → T (below_all R q es) → find R q es ≡ None
  find_below q [] h = refl
  find_below q (e ∷ es) h = ap (λ r. cond (is_eq r) (Some e.1) (find R q es)) (less _ (first _ _ h)) ∙ find_below q es (second _ _ h)

  below_later : (x y : K) (es : List (K × X)) → R x y ≡ Less → T (below_all R y es) → T (below_all R x es)
  below_later x y [] p h = tt
  below_later x y (e ∷ es) p h = both _ _ (subst (λ r. T (is_lt r)) (sym (o.trans x y e.0 p (less (R y e.0) (first _ _ h)))) tt) (below_later x y es p (second _ _ h))

  sum-put : (k : K) (v : X) (es : List (K × X)) → T (is_sorted R es) → sum_of f (put R k v es) + weight f (find R k es) ≡ sum_of f es + f v
  sum-put k v [] h = omega arith
  sum-put k v (e ∷ es) h = go (R k e.0) refl (sum-put k v es (second _ _ h))
    where
      go : (r : Ordering) → R k e.0 ≡ r → sum_of f (put R k v es) + weight f (find R k es) ≡ sum_of f es + f v → sum_of f (put R k v (e ∷ es)) + weight f (find R k (e ∷ es)) ≡ sum_of f (e ∷ es) + f v
      go Less p rest =
          let none = find_below k es (below_later k e.0 es p (first _ _ h)) in
          rw (p, none) (omega arith)
      go Equal p rest = rw p (omega arith)
      go Greater p rest = rw p (omega (arith, rest))

  pub total-insert : (m : FinMap R X) (k : K) (v : X) → total f (maps.insert m k v) + weight f (maps.get m k) ≡ total f m + f v
  unfolding total
  total-insert m k v = rw (maps.entries-insert o m k v, maps.get-entries m k) (sum-put k v (maps.entries m) (maps.entries_sorted m))

module _ {K X : Type 0} {R : K → K → Ordering} (o : IsTotalOrder R) (same : maps.IsAntisymmetric R) (f : X → ℕ) where
  same_at : (q k : K) → eq_by_cmp R q k ≡ true → q ≡ k
  same_at q k e = go (R q k) refl e
    where
      go : (r : Ordering) → R q k ≡ r → is_eq r ≡ true → q ≡ k
      go Less p e = cc
      go Equal p e = same q k p
      go Greater p e = cc

  tied : (k : K) → eq_by_cmp R k k ≡ true
  tied k = ap is_eq (tied_itself o k)

  -- nothing is taken out where nothing stands
  pub remove-none : (m : FinMap R X) (k : K) → maps.get m k ≡ None → maps.remove m k ≡ m
  remove-none m k none = maps.same_map o same _ _ (λ q. maps.get-remove o m k q ∙ go q (eq_by_cmp R q k) refl)
    where
      go : (q : K) (b : Bool) → eq_by_cmp R q k ≡ b → cond b None (maps.get m q) ≡ maps.get m q
      go q true e = sym (ap (maps.get m) (same_at q k e) ∙ none)
      go q false e = refl

  -- what was taken out can be put back
  pub insert-back : (m : FinMap R X) (k : K) (v : X) → maps.get m k ≡ Some v → maps.insert (maps.remove m k) k v ≡ m
  insert-back m k v some = maps.same_map o same _ _ (λ q. maps.get-insert o (maps.remove m k) k v q ∙ ap (cond (eq_by_cmp R q k) (Some v)) (maps.get-remove o m k q) ∙ go q (eq_by_cmp R q k) refl)
    where
      go : (q : K) (b : Bool) → eq_by_cmp R q k ≡ b → cond b (Some v) (cond b None (maps.get m q)) ≡ maps.get m q
      go q true e = sym (ap (maps.get m) (same_at q k e) ∙ some)
      go q false e = refl

  -- what is put in where something was taken out takes its place
  pub insert-remove : (m : FinMap R X) (k : K) (v : X) → maps.insert (maps.remove m k) k v ≡ maps.insert m k v
  insert-remove m k v = maps.same_map o same _ _ (λ q.
      maps.get-insert o (maps.remove m k) k v q ∙ ap (cond (eq_by_cmp R q k) (Some v)) (maps.get-remove o m k q)
      ∙ go (eq_by_cmp R q k) (Some v) (maps.get m q) ∙ sym (maps.get-insert o m k v q))
    where
      go : (b : Bool) (x y : Option X) → cond b x (cond b None y) ≡ cond b x y
      go true x y = refl
      go false x y = refl

  -- what stands is put in again
  pub insert-same : (m : FinMap R X) (k : K) (v : X) → maps.get m k ≡ Some v → maps.insert m k v ≡ m
  insert-same m k v some = sym (insert-remove m k v) ∙ insert-back m k v some

  -- what is new is taken out again
  pub remove-insert : (m : FinMap R X) (k : K) (v : X) → maps.get m k ≡ None → maps.remove (maps.insert m k v) k ≡ m
  remove-insert m k v none = maps.same_map o same _ _ (λ q. maps.get-remove o (maps.insert m k v) k q ∙ ap (cond (eq_by_cmp R q k) None) (maps.get-insert o m k v q) ∙ go q (eq_by_cmp R q k) refl)
    where
      go : (q : K) (b : Bool) → eq_by_cmp R q k ≡ b → cond b None (cond b (Some v) (maps.get m q)) ≡ maps.get m q
      go q true e = sym (ap (maps.get m) (same_at q k e) ∙ none)
      go q false e = refl

  pub get-removed : (m : FinMap R X) (k : K) → maps.get (maps.remove m k) k ≡ None
  get-removed m k = maps.get-remove o m k k ∙ ap (λ b. cond b None (maps.get m k)) (tied k)

  pub total-remove : (m : FinMap R X) (k : K) → total f (maps.remove m k) + weight f (maps.get m k) ≡ total f m
  total-remove m k = go (maps.get m k) refl
    where
      go : (w : Option X) → maps.get m k ≡ w → total f (maps.remove m k) + weight f w ≡ total f m
      go None e = let unchanged = ap (total f) (remove-none m k e) in omega (arith, unchanged)
      go (Some v) e =
          let back = ap (total f) (insert-back m k v e) in
          let put_in = total-insert o f (maps.remove m k) k v in
          let none = ap (weight f) (get-removed m k) in
          omega (arith, back, put_in, none)

-- Counts beside a map.
module _ {K X : Type 0} {R : K → K → Ordering} (o : IsTotalOrder R) (same : maps.IsAntisymmetric R) (p : ℕ → X → Bool) (c d : Counts) where
  agree-remove : (m : FinMap R X) (k : K) (v : X) → maps.get m k ≡ Some v → Agree c p m → ((n : ℕ) → count_of d n ≡ count_of c n - one_if (p n v)) → Agree d p (maps.remove m k)
  agree-remove m k v some agree less n =
      let sum = total-remove o same (λ x. one_if (p n x)) m k in
      let it = ap (weight (λ x. one_if (p n x))) some in
      let a = agree n in let b = less n in omega (arith, sum, it, a, b)

  agree-insert : (m : FinMap R X) (k : K) (v : X) → maps.get m k ≡ None → Agree c p m → ((n : ℕ) → count_of d n ≡ one_if (p n v) + count_of c n) → Agree d p (maps.insert m k v)
  agree-insert m k v none agree more n =
      let sum = total-insert o (λ x. one_if (p n x)) m k v in
      let it = ap (weight (λ x. one_if (p n x))) none in
      let a = agree n in let b = more n in omega (arith, sum, it, a, b)

  -- a value takes the place of one that passes the same tests
  pub agree-change : (m : FinMap R X) (k : K) (v w : X) → maps.get m k ≡ Some v → ((n : ℕ) → p n w ≡ p n v) → Agree c p m → Agree c p (maps.insert m k w)
  agree-change m k v w some e agree n =
      let sum = total-insert o (λ x. one_if (p n x)) m k w in
      let it = ap (weight (λ x. one_if (p n x))) some in
      let alike = ap one_if (e n) in
      let a = agree n in omega (arith, sum, it, a, alike)

no_sum : {K X : Type 0} (f : X → ℕ) (es : List (K × X)) → length es ≡ 0 → sum_of f es ≡ 0
no_sum f [] h = refl
no_sum f (e ∷ es) h = absurd (omega (arith, h))

module _ {K X : Type 0} (R : K → K → Ordering) (f : X → ℕ) where
  pub total-empty : total f (maps.empty {X = X} {R = R}) ≡ 0
  unfolding total
  total-empty = no_sum f (maps.entries (maps.empty {X = X} {R = R})) (sym (maps.len-entries (maps.empty {X = X} {R = R})) ∙ maps.len-empty R X)

-- A sum that is kept beside a map.
module _ {K X : Type 0} {R : K → K → Ordering} (o : IsTotalOrder R) (same : maps.IsAntisymmetric R) (f : X → ℕ) where
  pub kept_same : (m n : FinMap R X) (k : K) (sum : ℕ) → None ≡ maps.get m k → sum ≡ total f m → n ≡ maps.remove m k → sum ≡ total f n
  kept_same m n k sum none is e = is ∙ ap (total f) (sym (remove-none o same f m k (sym none)) ∙ sym e)

  pub kept_less : (m n : FinMap R X) (k : K) (v : X) (sum size less : ℕ) → Some v ≡ maps.get m k → sum ≡ total f m → size ≡ f v → less ≡ sum - size → n ≡ maps.remove m k → less ≡ total f n
  kept_less m n k v sum size less some is sized le e =
      let one = total-remove o same f m k in
      let it = ap (weight f) some in
      let there = ap (total f) e in
      omega (arith, one, it, there, is, sized, le)

  -- a value takes the place of what was there
  pub kept_put : (m n : FinMap R X) (k : K) (v : X) (sum before size more : ℕ) → sum ≡ total f m → before ≡ weight f (maps.get m k) → size ≡ f v → more ≡ sum - before + size → n ≡ maps.insert m k v → more ≡ total f n
  kept_put m n k v sum before size more is was sized mo e =
      let put_in = total-insert o f m k v in
      let out = total-remove o same f m k in
      let there = ap (total f) e in
      omega (arith, put_in, out, there, is, was, sized, mo)

  pub kept_more : (m0 m n : FinMap R X) (k : K) (v : X) (sum size more : ℕ) → m ≡ maps.remove m0 k → sum ≡ total f m → size ≡ f v → more ≡ sum + size → n ≡ maps.insert m k v → more ≡ total f n
  kept_more m0 m n k v sum size more gone is sized mo e =
      let one = total-insert o f m k v in
      let it = ap (weight f) (ap (λ t. maps.get t k) gone ∙ get-removed o same f m0 k) in
      let there = ap (total f) e in
      omega (arith, one, it, there, is, sized, mo)

  -- a value is changed in its place
  pub kept_changed : (m n : FinMap R X) (k : K) (v w : X) (sum before after new : ℕ) → Some v ≡ maps.get m k → sum ≡ total f m → before ≡ f v → after ≡ f w → new ≡ sum - before + after → n ≡ maps.insert m k w → new ≡ total f n
  kept_changed m n k v w sum before after new some is b a changed e =
      let put_in = total-insert o f m k w in
      let out = total-remove o same f m k in
      let it = ap (weight f) some in
      let there = ap (total f) e in
      omega (arith, put_in, out, it, there, is, b, a, changed)

  pub kept_alike : (m n : FinMap R X) (k : K) (v w : X) (sum : ℕ) → Some v ≡ maps.get m k → sum ≡ total f m → w ≡ v → n ≡ maps.insert m k w → sum ≡ total f n
  kept_alike m n k v w sum some is alike e =
      let put_in = total-insert o f m k w in
      let it = ap (weight f) some in
      let there = ap (total f) e in
      let size = ap f alike in
      omega (arith, put_in, it, there, is, size)

  pub put_back : (m0 m n : FinMap R X) (k : K) (v : X) → m ≡ maps.remove m0 k → n ≡ maps.insert m k v → n ≡ maps.insert m0 k v
  put_back m0 m n k v gone e = e ∙ ap (λ t. maps.insert t k v) gone ∙ insert-remove o same f m0 k v

-- Counts that are kept beside a map.
module _ {K X : Type 0} {R : K → K → Ordering} (o : IsTotalOrder R) (same : maps.IsAntisymmetric R) (p : ℕ → X → Bool) where
  pub agree_none : (c : Counts) (m n : FinMap R X) (k : K) → None ≡ maps.get m k → Agree c p m → n ≡ maps.remove m k → Agree c p n
  agree_none c m n k none agree e i = agree i ∙ ap (how_many (p i)) (sym (remove-none o same (λ x. 0) m k (sym none)) ∙ sym e)

  pub agree_less : (c d : Counts) (m n : FinMap R X) (k : K) (v : X) → Some v ≡ maps.get m k → Agree c p m → n ≡ maps.remove m k → ((i : ℕ) → count_of d i ≡ count_of c i - one_if (p i v)) → Agree d p n
  agree_less c d m n k v some agree e less i = agree-remove o same p c d m k v (sym some) agree less i ∙ ap (how_many (p i)) (sym e)

  pub agree_more : (c d : Counts) (m0 m n : FinMap R X) (k : K) (v : X) → m ≡ maps.remove m0 k → Agree c p m → n ≡ maps.insert m k v → ((i : ℕ) → count_of d i ≡ one_if (p i v) + count_of c i) → Agree d p n
  agree_more c d m0 m n k v gone agree e more i =
      agree-insert o same p c d m k v (ap (λ t. maps.get t k) gone ∙ get-removed o same (λ x. 0) m0 k) agree more i ∙ ap (how_many (p i)) (sym e)

  -- a value takes the place of what was there
  pub agree_put : (c d e : Counts) (m n : FinMap R X) (k : K) (v : X) → Agree c p m → n ≡ maps.insert m k v → ((i : ℕ) → count_of d i ≡ one_if (p i v) + count_of c i) → Forgets p (maps.get m k) d e → Agree e p n
  agree_put c d e m n k v agree is more less i =
      let put_in = total-insert o (λ x. one_if (p i x)) m k v in
      let there = ap (how_many (p i)) is in
      let a = agree i in let b = more i in let l = less i in
      omega (arith, put_in, there, a, b, l)

  -- one more, and one less again
  pub agree_back : (c d e : Counts) (m n : FinMap R X) (v : X) → Agree c p m → n ≡ m → ((i : ℕ) → count_of d i ≡ one_if (p i v) + count_of c i) → ((i : ℕ) → count_of e i ≡ count_of d i - one_if (p i v)) → Agree e p n
  agree_back c d e m n v agree is more less i =
      let there = ap (how_many (p i)) is in
      let a = agree i in let b = more i in let l = less i in
      omega (arith, there, a, b, l)

  pub agree_new : (c : Counts) (m : FinMap R X) → m ≡ maps.empty → ((i : ℕ) → count_of c i ≡ 0) → Agree c p m
  agree_new c m e zero i = zero i ∙ sym (ap (how_many (p i)) e ∙ total-empty R (λ x. one_if (p i x)))

  pub agree_change : (c : Counts) (m n : FinMap R X) (k : K) (v w : X) → Some v ≡ maps.get m k → ((i : ℕ) → p i w ≡ p i v) → Agree c p m → n ≡ maps.insert m k w → Agree c p n
  agree_change c m n k v w some alike agree e i = agree-change o same p c c m k v w (sym some) alike agree i ∙ ap (how_many (p i)) (sym e)
