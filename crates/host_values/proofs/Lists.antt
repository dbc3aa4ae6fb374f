-- Values one after the other, as a loop reads them.
use Rattle.std.proofs.Common.{◌≡◌, ℕ, suc, ◌-◌, ◌+◌, ◌≤◌, ◌<◌, List, [], ◌∷◌, ◌++◌, Option, Some, None, refl, sym, ap, ◌∙◌, append_assoc, arith}
use Rattle.std.proofs.lemmas.List.{append-nil}
use Rattle.host_values.specs.declared.fault.Bad.{Bad}
use Rattle.host_values.specs.declared.fault.Bad.TheVariants as bad
use Rattle.host_values.specs.Reading.{◌>>=◌, Fails, each_at}

-- what was read before, and what is still read
abbrev pub with_front : {X : Type 0} → List X → Option (List X × List ℕ) → Option (List X × List ℕ)
with_front front read = read >>= λ x. Some (front ++ x.0, x.1)

regroup : {X : Type 0} (front : List X) (x : X) (read : Option (List X × List ℕ)) → with_front front (read >>= λ xs. Some (x ∷ xs.0, xs.1)) ≡ with_front (front ++ x ∷ []) read
regroup {X = X} front x (Some xs) = ap (λ (ys : List X). Some (ys, xs.1)) (simp append_assoc)
regroup front x None = refl

pub next_item : {X : Type 0} (reads : List ℕ → Option (X × List ℕ)) (front : List X) (count i : ℕ) (bytes : List ℕ) (x : X) (after : List ℕ) (total : Option (List X × List ℕ)) → i < count → reads bytes ≡ Some (x, after)
    → with_front front (each_at reads (count - i) bytes) ≡ total → with_front (front ++ x ∷ []) (each_at reads (count - (i + 1)) after) ≡ total
next_item reads front count i bytes x after total lt h so_far =
    let k : count - i ≡ suc (count - (i + 1)) = omega arith in
    let one : with_front front (each_at reads (count - i) bytes) ≡ with_front (front ++ x ∷ []) (each_at reads (count - (i + 1)) after) = rw (k, h) (regroup front x (each_at reads (count - (i + 1)) after)) in
    sym one ∙ so_far

pub bad_item : {X : Type 0} (reads : List ℕ → Option (X × List ℕ)) (e : Bad) (front : List X) (count i : ℕ) (bytes : List ℕ) (total : Option (List X × List ℕ)) → i < count → Fails e (reads bytes)
    → with_front front (each_at reads (count - i) bytes) ≡ total → Fails e total
bad_item reads bad.Memory front count i bytes total lt h so_far = tt
bad_item reads bad.Payload front count i bytes total lt h so_far =
    let k : count - i ≡ suc (count - (i + 1)) = omega arith in
    let one : with_front front (each_at reads (count - i) bytes) ≡ None = rw (k, h) refl in
    sym so_far ∙ one

pub last_item : {X : Type 0} (reads : List ℕ → Option (X × List ℕ)) (front : List X) (count i : ℕ) (bytes : List ℕ) (total : Option (List X × List ℕ)) → count ≤ i → with_front front (each_at reads (count - i) bytes) ≡ total → total ≡ Some (front, bytes)
last_item {X = X} reads front count i bytes total le so_far =
    let k : count - i ≡ 0 = omega arith in
    let one : with_front front (each_at reads (count - i) bytes) ≡ Some (front, bytes) = rw k (ap (λ (xs : List X). Some (xs, bytes)) (append-nil front)) in
    sym so_far ∙ one
