-- Of ranges in the order of their starts the one that is found.
use Rattle.std.proofs.Common.{◌≡◌, ℕ, zero, suc, ◌-◌, ◌<◌, ◌≤◌, Bool, true, false, List, [], ◌∷◌, ◌++◌, length, get_or, Option, Some, None, nat_le, nat_lt, if◌then◌else◌, refl, sym, ap, ◌∙◌, subst, append_assoc, arith, Contains}
use Rattle.std.proofs.lemmas.List.{append-nil}
use Rattle.std.proofs.lemmas.List.Elements.{All-contains, Contains-push, Contains-append_left}
use Rattle.std.proofs.lemmas.List.Sorted.{IsPermutation-sym, IsNonDecreasingBy-drop, Contains-permutation, All-permutation}
use Rattle.std.proofs.lemmas.Bool.{leb-true, le-leb, ltb-true, lt-ltb, and_parts}
use Rattle.std.specs.List.Sorted.{IsPermutation, IsPartitionPoint, IsNonDecreasingBy}
use Rattle.elf_symbols.specs.Ranges.{covers, last_by, covering, range_at, IsIndex, AreApart}

-- ---- by the number of those that begin at or below the address

abbrev picked : {X : Type 0} → Option X → List X → ℕ → X → Option X
picked so_far xs zero d = so_far
picked so_far xs (suc n) d = Some (get_or xs n d)

next_picked : {X : Type 0} (x : X) (xs : List X) (so_far : Option X) (n : ℕ) (d : X) → picked (Some x) xs n d ≡ picked so_far (x ∷ xs) (suc n) d
next_picked x xs so_far zero d = refl
next_picked x xs so_far (suc m) d = refl

at_point : {X : Type 0} (start : X → ℕ) (address : ℕ) (xs : List X) (r : ℕ) (so_far : Option X) (d : X) → r ≤ length xs
    → ((k : ℕ) (e : X) → k < r → nat_le (start (get_or xs k e)) address ≡ true)
    → ((k : ℕ) (e : X) → r ≤ k → k < length xs → nat_le (start (get_or xs k e)) address ≡ false)
    → last_by start address so_far xs ≡ picked so_far xs r d
at_point start address [] zero so_far d le front back = refl
at_point start address [] (suc n) so_far d le front back = absurd (omega arith)
at_point start address (x ∷ xs) zero so_far d le front back =
    let above : nat_le (start x) address ≡ false = back 0 x (omega arith) (omega arith) in
    rw above refl
at_point start address (x ∷ xs) (suc n) so_far d le front back =
    let below : nat_le (start x) address ≡ true = front 0 x (omega arith) in
    let rest = at_point start address xs n (Some x) d (omega arith) (λ k e l. front (suc k) e (omega arith)) (λ k e l m. back (suc k) e (omega arith) (omega arith)) in
    let here : last_by start address so_far (x ∷ xs) ≡ last_by start address (Some x) xs = rw below refl in
    here ∙ rest ∙ next_picked x xs so_far n d

-- .. by halves
pub none_by : {X : Type 0} (start : X → ℕ) (address : ℕ) (xs : List X) (r : ℕ) → IsPartitionPoint (λ y. nat_le (start y) address ≡ true) (λ y. nat_le (start y) address ≡ false) xs r
    → r ≡ 0 → None ≡ last_by start address None xs
none_by start address [] r point none = refl
none_by start address (x ∷ xs) r point none =
    let above : nat_le (start x) address ≡ false = point.1 0 x (omega arith) (omega arith) in
    rw above refl

pub some_by : {X : Type 0} (start : X → ℕ) (address : ℕ) (xs : List X) (r : ℕ) (d : X) → IsPartitionPoint (λ y. nat_le (start y) address ≡ true) (λ y. nat_le (start y) address ≡ false) xs r
    → r ≤ length xs → 0 < r → Some (get_or xs (r - 1) d) ≡ last_by start address None xs
some_by start address xs zero d point le any = absurd (omega arith)
some_by start address xs (suc n) d point le any =
    let k : suc n - 1 ≡ n = omega arith in
    let there : last_by start address None xs ≡ Some (get_or xs n d) =
    at_point start address xs (suc n) None d le (λ k e l. point.0 k e (omega arith) l) (λ k e l m. point.1 k e l m) in
    ap (λ i. Some (get_or xs i d)) k ∙ sym there

-- ---- what is found is one of them, and covers the address

abbrev IsBy : {X : Type 0} → (X → ℕ) → ℕ → List X → Option X → Type 0
IsBy start address seen None = 0 ≤ 0
IsBy start address seen (Some x) = Contains seen x × (nat_le (start x) address ≡ true)

still_by : {X : Type 0} (start : X → ℕ) (address : ℕ) (seen rest : List X) (so_far : Option X) → IsBy start address seen so_far → IsBy start address (seen ++ rest) so_far
still_by start address seen rest None so = so
still_by start address seen rest (Some x) so = (Contains-append_left seen rest x so.0, so.1)

-- one more, where by_from knows of the rest
one_by : {X : Type 0} (start : X → ℕ) (address : ℕ) (x : X) (xs seen : List X) (so_far : Option X) (below : Bool) → nat_le (start x) address ≡ below
    → ((seen' : List X) (so' : Option X) → IsBy start address seen' so' → IsBy start address (seen' ++ xs) (last_by start address so' xs))
    → IsBy start address seen so_far → IsBy start address (seen ++ x ∷ xs) (last_by start address so_far (x ∷ xs))
one_by start address x xs seen so_far true is rest so =
    let here : last_by start address so_far (x ∷ xs) ≡ last_by start address (Some x) xs = rw is refl in
    subst (λ found. IsBy start address (seen ++ x ∷ xs) found) (sym here)
    (subst (λ all. IsBy start address all (last_by start address (Some x) xs)) (append_assoc seen (x ∷ []) xs)
    (rest (seen ++ x ∷ []) (Some x) (Contains-push seen x, is)))
one_by start address x xs seen so_far false is rest so =
    let here : last_by start address so_far (x ∷ xs) ≡ so_far = rw is refl in
    subst (λ found. IsBy start address (seen ++ x ∷ xs) found) (sym here) (still_by start address seen (x ∷ xs) so_far so)

by_from : {X : Type 0} (start : X → ℕ) (address : ℕ) (xs seen : List X) (so_far : Option X) → IsBy start address seen so_far
    → IsBy start address (seen ++ xs) (last_by start address so_far xs)
by_from start address [] seen so_far so = subst (λ all. IsBy start address all so_far) (sym (append-nil seen)) so
by_from start address (x ∷ xs) seen so_far so =
    one_by start address x xs seen so_far (nat_le (start x) address) refl (λ seen' so' by. by_from start address xs seen' so' by) so

chosen : {X : Type 0} (inside : Bool) (x y : X) → (if inside then Some x else None) ≡ Some y → (inside ≡ true) × (x ≡ y)
chosen true x y e = (refl, cc)
chosen false x y e = absurd cc

found_covers : {X : Type 0} (start stop : X → ℕ) (address : ℕ) (xs : List X) (found : Option X) (x : X) → IsBy start address xs found → covering stop address found ≡ Some x
    → Contains xs x × (covers start stop x address ≡ true)
found_covers start stop address xs None x by e = absurd cc
found_covers start stop address xs (Some y) x by e =
    let parts = chosen (nat_lt address (stop y)) y x e in
    let both : covers start stop y address ≡ true = rw (by.1, parts.0) refl in
    (subst (λ z. Contains xs z) parts.1 by.0, subst (λ z. covers start stop z address ≡ true) parts.1 both)

pub range_covers : {X : Type 0} (start stop : X → ℕ) (xs index : List X) (address : ℕ) (x : X) → IsIndex start xs index → range_at start stop index address ≡ Some x
    → Contains xs x × (covers start stop x address ≡ true)
range_covers start stop xs index address x is e =
    let of_index = found_covers start stop address index (last_by start address None index) x (by_from start address index [] None (omega arith)) e in
    (Contains-permutation index xs x (IsPermutation-sym xs index is.0) of_index.0, of_index.1)

-- ---- where they are apart, the one that covers the address is found

abbrev IsLatest : {X : Type 0} → (X → ℕ) → ℕ → ℕ → Option X → Type 0
IsLatest start low address None = ⊥
IsLatest start low address (Some x) = (low ≤ start x) × (start x ≤ address)

tail_rises : {X : Type 0} (start : X → ℕ) (x : X) (xs : List X) → IsNonDecreasingBy start (x ∷ xs) → IsNonDecreasingBy start xs
tail_rises start x xs up = IsNonDecreasingBy-drop start 1 (x ∷ xs) up

-- one more, where later knows of the rest
later_one : {X : Type 0} (start : X → ℕ) (low address : ℕ) (x : X) (xs : List X) (y : X) (below : Bool) → nat_le (start x) address ≡ below
    → (low ≤ start x → start x ≤ address → IsNonDecreasingBy start (x ∷ xs) → IsLatest start low address (last_by start address (Some x) xs))
    → low ≤ start y → start y ≤ address → IsNonDecreasingBy start (y ∷ x ∷ xs) → IsLatest start low address (last_by start address (Some y) (x ∷ xs))
later_one start low address x xs y true is rest le by up =
    let here : last_by start address (Some y) (x ∷ xs) ≡ last_by start address (Some x) xs = rw is refl in
    let rises : start y ≤ start x = up 0 1 x (omega arith) (omega arith) in
    let below : start x ≤ address = leb-true (start x) address is in
    subst (λ found. IsLatest start low address found) (sym here) (rest (omega (arith, le, rises)) below (tail_rises start y (x ∷ xs) up))
later_one start low address x xs y false is rest le by up =
    let here : last_by start address (Some y) (x ∷ xs) ≡ Some y = rw is refl in
    subst (λ found. IsLatest start low address found) (sym here) (le, by)

later : {X : Type 0} (start : X → ℕ) (low address : ℕ) (xs : List X) (y : X) → low ≤ start y → start y ≤ address → IsNonDecreasingBy start (y ∷ xs)
    → IsLatest start low address (last_by start address (Some y) xs)
later start low address [] y le by up = (le, by)
later start low address (x ∷ xs) y le by up =
    later_one start low address x xs y (nat_le (start x) address) refl (λ le' by' up'. later start low address xs x le' by' up') le by up

latest : {X : Type 0} (start : X → ℕ) (address : ℕ) (xs : List X) (x : X) (k : ℕ) (so_far : Option X) → k < length xs → get_or xs k x ≡ x → start x ≤ address
    → IsNonDecreasingBy start xs → IsLatest start (start x) address (last_by start address so_far xs)
latest start address [] x k so_far short is by up = absurd (omega arith)
latest start address (y ∷ xs) x zero so_far short is by up =
    let low : start x ≤ start y = subst (λ z. start z ≤ start y) is (omega arith) in
    let here : start y ≤ address = subst (λ z. start z ≤ address) (sym is) by in
    let found : last_by start address so_far (y ∷ xs) ≡ last_by start address (Some y) xs = rw (le-leb (start y) address here) refl in
    subst (λ f. IsLatest start (start x) address f) (sym found) (later start (start x) address xs y low here up)
latest start address (y ∷ xs) x (suc k) so_far short is by up =
    let rises : start y ≤ start (get_or xs k x) = up 0 (suc k) x (omega arith) short in
    let below : start y ≤ start x = subst (λ z. start y ≤ start z) is rises in
    let here : start y ≤ address = omega (arith, below, by) in
    let found : last_by start address so_far (y ∷ xs) ≡ last_by start address (Some y) xs = rw (le-leb (start y) address here) refl in
    subst (λ f. IsLatest start (start x) address f) (sym found)
    (latest start address xs x k (Some y) (omega arith) is by (tail_rises start y xs up))

the_one : {X : Type 0} (start stop : X → ℕ) (address : ℕ) (index : List X) (x : X) (found : Option X) → AreApart start stop index → Contains index x → covers start stop x address ≡ true
    → IsBy start address index found → IsLatest start (start x) address found → covering stop address found ≡ Some x
the_one start stop address index x None apart in_it covered by late = absurd late
the_one start stop address index x (Some y) apart in_it covered by late =
    let parts = and_parts (nat_le (start x) address) (nat_lt address (stop x)) covered in
    let below : address < stop x = ltb-true address (stop x) parts.1 in
    let any : start y < stop y = All-contains (λ z. start z < stop z) index y apart.0 by.0 in
    let one : covers start stop x (start y) ≡ true = rw (le-leb (start x) (start y) late.0, lt-ltb (start y) (stop x) (omega (arith, late.1, below))) refl in
    let two : covers start stop y (start y) ≡ true = rw (le-leb (start y) (start y) (omega arith), lt-ltb (start y) (stop y) any) refl in
    let same : y ≡ x = apart.1 y x (start y) by.0 in_it two one in
    subst (λ z. covering stop address (Some z) ≡ Some x) (sym same) (rw parts.1 refl)

same_apart : {X : Type 0} (start stop : X → ℕ) (xs index : List X) → IsPermutation xs index → AreApart start stop xs → AreApart start stop index
same_apart start stop xs index moved apart =
    let back = IsPermutation-sym xs index moved in (
      All-permutation (λ x. start x < stop x) xs index moved apart.0,
      λ x y address in_x in_y one two. apart.1 x y address (Contains-permutation index xs x back in_x) (Contains-permutation index xs y back in_y) one two,
    )

pub range_is_found : {X : Type 0} (start stop : X → ℕ) (xs index : List X) (address : ℕ) (x : X) → IsIndex start xs index → AreApart start stop xs → Contains xs x
    → covers start stop x address ≡ true → range_at start stop index address ≡ Some x
range_is_found start stop xs index address x is apart in_it covered =
    let of_index = Contains-permutation xs index x is.0 in_it in
    let parts = and_parts (nat_le (start x) address) (nat_lt address (stop x)) covered in
    let late = latest start address index x of_index.0 None of_index.1 of_index.2 (leb-true (start x) address parts.0) is.1 in
    the_one start stop address index x (last_by start address None index) (same_apart start stop xs index is.0 apart) of_index covered
    (by_from start address index [] None (omega arith)) late
