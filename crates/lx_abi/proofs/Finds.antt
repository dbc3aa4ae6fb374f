-- Finding in tables.
use Rattle.std.proofs.Common.{Bor, length, ℕ, ◌≡◌, ◌≤◌, ◌+◌, ◌-◌, ◌<◌, ◌&&◌, ◌||◌, List, [], ◌∷◌, Option, Some, None, Bool, true, false, cond, suc, option_map, map, find, refl, arith, sym, ap, ◌==◌}
use Rattle.std.specs.List.{slice_get, list_all, list_any}
use Rattle.lx_abi.specs.Tables.{counts_from}
use Rattle.std.specs.Slice.{IsItemAt}
use Rattle.std.proofs.lemmas.Bool.Decides.{nat_tests}
use Rattle.std.proofs.lemmas.Option.{slice_get_past, slice_get_read}

chosen : {A B : Type 0} (f : A → B) (x : A) (b : Bool) (o : Option A) (p : Option B) → p ≡ option_map f o → cond b (Some (f x)) p ≡ option_map f (cond b (Some x) o)
chosen f x true o p e = refl
chosen f x false o p e = e

-- finding among the images of a list's elements
pub find-map : {A B : Type 0} (f : A → B) (p : B → Bool) (xs : List A) → find p (map f xs) ≡ option_map f (find (λ x. p (f x)) xs)
find-map f p [] = refl
find-map f p (x ∷ xs) = chosen f x (p (f x)) (find (λ y. p (f y)) xs) (find p (map f xs)) (find-map f p xs)

-- a test of some image of a list's elements
pub any-map : {A B : Type 0} (f : A → B) (p : B → Bool) (xs : List A) → list_any p (map f xs) ≡ list_any (λ x. p (f x)) xs
any-map f p [] = refl
any-map f p (x ∷ xs) = ap (λ b. p (f x) || b) (any-map f p xs)

found_at : {R : Type 0} (key : R → ℕ) (k n : ℕ) (row : R) (rows : List R) (b : Bool) (o : Option R) → (key row == n) ≡ b → key row ≡ k → k ≤ n → (k + 1 ≤ n → o ≡ slice_get rows (n - (k + 1))) → cond b (Some row) o ≡ slice_get (row ∷ rows) (n - k)
found_at key k n row rows true o t e l ih = let z : n - k ≡ 0 = grind (arith, nat_tests) in rw z refl
found_at key k n row rows false o t e l ih =
    let more : k + 1 ≤ n = grind (arith, nat_tests) in
    let z : n - k ≡ suc (n - (k + 1)) = omega arith in
    rw z (ih more)

-- where the numbers count up by one, the row with a number is at its place
pub find_place : {R : Type 0} (key : R → ℕ) (k n : ℕ) (rows : List R) → counts_from k (map key rows) ≡ true → k ≤ n → find (λ row. key row == n) rows ≡ slice_get rows (n - k)
find_place key k n [] h l = refl
find_place key k n (row ∷ rows) h l =
    let e : key row ≡ k = grind (arith, nat_tests) in
    let t : counts_from (k + 1) (map key rows) ≡ true = grind (arith, nat_tests) in
    found_at key k n row rows (key row == n) (find (λ r. key r == n) rows) refl e l (λ more. find_place key (k + 1) n rows t more)

-- what `get` lends is what stands there
pub taken : {A : Type 0} (xs : List A) (i : ℕ) (r : Option (Bor A)) → IsItemAt xs i r → option_map (λ x. x.now) r ≡ slice_get xs i
taken xs i None h = let past : length xs ≤ i = grind (arith, nat_tests, h.0) in sym (slice_get_past xs i past)
taken xs i (Some x) h =
    let in_range : i < length xs = grind (arith, nat_tests, h.0) in
    sym (slice_get_read xs (length xs) i x.now refl in_range h.1)

kept : {A : Type 0} (p q : A → Bool) (row x : A) (rows : List A) (b : Bool) → cond b (Some row) (find p rows) ≡ Some x → (q row && list_all q rows) ≡ true → (find p rows ≡ Some x → list_all q rows ≡ true → q x ≡ true) → q x ≡ true
kept p q row x rows true e h ih = let here : row ≡ x = cc in rw (← here) (grind (arith, nat_tests))
kept p q row x rows false e h ih = ih e (grind (arith, nat_tests))

-- what is true of every row is true of one that is found
pub find_keeps : {A : Type 0} (p q : A → Bool) (x : A) (rows : List A) → find p rows ≡ Some x → list_all q rows ≡ true → q x ≡ true
find_keeps p q x [] e h = cc
find_keeps p q x (row ∷ rows) e h = kept p q row x rows (p row) e h (find_keeps p q x rows)
