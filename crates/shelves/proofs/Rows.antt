-- Rows as places come and go.
use Rattle.std.proofs.Common.{◌≡◌, ℕ, zero, suc, Option, Some, None, refl, sym, ◌∙◌, ap, subst, List, [], ◌∷◌, get_or, set, length, ◌<◌}
use Rattle.std.proofs.lemmas.List.{get_or-set_other, get_or-set_same}
use Rattle.std.specs.Ordering.{nat_cmp}
use Rattle.std.specs.FinMap as maps
use Rattle.std.specs.FinMap.{FinMap}
use Rattle.shelves.specs.Rows.{AreRows, row_count}
use Rattle.shelves.proofs.Shelved.{Tells, alike, apart_from, tells, get-put, get-put_here, get-taken, get-taken_here}

-- a row that is cleared is empty, also where there is none
get_or-cleared : {X : Type 0} (rows : List (Option X)) (k : ℕ) → get_or (set rows k None) k None ≡ None
get_or-cleared [] k = refl
get_or-cleared (row ∷ rows) zero = refl
get_or-cleared (row ∷ rows) (suc k) = get_or-cleared rows k

pub rows_of_none : (m : FinMap nat_cmp ℕ) → m ≡ maps.empty → AreRows [] m
rows_of_none m e q l = sym (ap (λ n. maps.get n q) e ∙ maps.get-empty nat_cmp q)

-- other rows with the same in each
pub rows_alike : (rows rows' : List (Option ℕ)) (m : FinMap nat_cmp ℕ) → ((q : ℕ) → get_or rows' q None ≡ get_or rows q None) → AreRows rows m → AreRows rows' m
rows_alike rows rows' m same are q l = same q ∙ are q l

-- a number is given a place, and its row says so
pub rows_put : (rows : List (Option ℕ)) (m : FinMap nat_cmp ℕ) (k p : ℕ) → (k < row_count → k < length rows) → AreRows rows m → AreRows (set rows k (Some p)) (maps.insert m k p)
rows_put rows m k p there are q l = by_number (tells q k)
  where
    by_number : Tells q k → get_or (set rows k (Some p)) q None ≡ maps.get (maps.insert m k p) q
    by_number (alike e t) =
        ap (λ (n : ℕ). get_or (set rows k (Some p)) n None) e
        ∙ get_or-set_same rows k (Some p) None (there (subst (λ (n : ℕ). n < row_count) e l))
        ∙ sym (ap (maps.get (maps.insert m k p)) e ∙ get-put_here m k p)
    by_number (apart_from n t) = get_or-set_other rows k q (Some p) None n ∙ are q l ∙ sym (get-put m k p q n)

-- a number loses its place, and its row is empty
pub rows_taken : (rows : List (Option ℕ)) (m : FinMap nat_cmp ℕ) (k : ℕ) → AreRows rows m → AreRows (set rows k None) (maps.remove m k)
rows_taken rows m k are q l = by_number (tells q k)
  where
    by_number : Tells q k → get_or (set rows k None) q None ≡ maps.get (maps.remove m k) q
    by_number (alike e t) =
        ap (λ (n : ℕ). get_or (set rows k None) n None) e
        ∙ get_or-cleared rows k
        ∙ sym (ap (maps.get (maps.remove m k)) e ∙ get-taken_here m k)
    by_number (apart_from n t) = get_or-set_other rows k q None None n ∙ are q l ∙ sym (get-taken m k q n)
