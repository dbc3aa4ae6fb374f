-- One number of a list.
use Rattle.std.proofs.Common.{◌≡◌, ℕ, ◌+◌, ◌<◌, ◌≤◌, List, [], ◌∷◌, ◌++◌, length, get_or, drop, Option, Some, None, option_map, Bor, refl, sym, ap, ◌∙◌, append_assoc}
use Rattle.std.proofs.lemmas.List.{at_drop_more, at_drop_all, append-nil}
use Rattle.rv_syntax.specs.declared.numbers.Number.{Number}
use Rattle.rv_syntax.specs.Operands.{◌>>=◌, lone_number, numbers_of}
use Rattle.rv_syntax.specs.Text.{texts}

-- the numbers so far, and those that follow
abbrev pub with_front : List Number → Option (List Number) → Option (List Number)
with_front front r = option_map (λ ns. front ++ ns) r

regroup : (front : List Number) (n : Number) (r : Option (List Number)) → with_front front (r >>= λ ns. Some (n ∷ ns)) ≡ with_front (front ++ n ∷ []) r
regroup front n (Some ns) = ap (λ (x : List Number). Some x) (sym (append_assoc front (n ∷ []) ns))
regroup front n None = refl

pub number_next : (ps : List (Bor (List ℕ))) (i : ℕ) (d : Bor (List ℕ)) (n : Number) (front : List Number) (total : Option (List Number)) → i < length ps → Some n ≡ lone_number (get_or ps i d).now
    → with_front front (numbers_of (texts (drop i ps))) ≡ total → with_front (front ++ n ∷ []) (numbers_of (texts (drop (i + 1) ps))) ≡ total
number_next ps i d n front total lt is so_far =
    let parts = at_drop_more (λ (x : List (Bor (List ℕ))). with_front front (numbers_of (texts x))) ps i d lt in
    let opened : with_front front (numbers_of (texts (get_or ps i d ∷ drop (i + 1) ps))) ≡ with_front front (numbers_of (texts (drop (i + 1) ps)) >>= λ ns. Some (n ∷ ns)) = rw (← is) refl in
    sym (regroup front n (numbers_of (texts (drop (i + 1) ps)))) ∙ sym opened ∙ sym parts ∙ so_far

pub number_refused : (ps : List (Bor (List ℕ))) (i : ℕ) (d : Bor (List ℕ)) (front : List Number) (total : Option (List Number)) → i < length ps → None ≡ lone_number (get_or ps i d).now
    → with_front front (numbers_of (texts (drop i ps))) ≡ total → None ≡ total
number_refused ps i d front total lt is so_far =
    let parts = at_drop_more (λ (x : List (Bor (List ℕ))). with_front front (numbers_of (texts x))) ps i d lt in
    let opened : with_front front (numbers_of (texts (get_or ps i d ∷ drop (i + 1) ps))) ≡ None = rw (← is) refl in
    sym opened ∙ sym parts ∙ so_far

pub numbers_end : (ps : List (Bor (List ℕ))) (i : ℕ) (front : List Number) (total : Option (List Number)) → length ps ≤ i → with_front front (numbers_of (texts (drop i ps))) ≡ total → Some front ≡ total
numbers_end ps i front total le so_far =
    let none = at_drop_all (λ (x : List (Bor (List ℕ))). with_front front (numbers_of (texts x))) ps i le in
    ap (λ (x : List Number). Some x) (sym (append-nil front)) ∙ sym none ∙ so_far
