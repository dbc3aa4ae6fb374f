-- Paths and their parents, and where a walk along a path ends.
use Rattle.std.proofs.Common.{◌≡◌, ℕ, ◌||◌, ◌&&◌, Bool, true, false, cond, List, [], ◌∷◌, ◌++◌, length, refl, ap, sym, subst, ◌∙◌, arith}
use Rattle.std.proofs.lemmas.Bool.Decides.{nat_tests}
use Rattle.std.specs.Prelude.{◌==◌, nat_eq, nat_lt}
use Rattle.std.specs.List.{slice_split, onto_first, starts_with}
use Rattle.lx_files.specs.Paths.{Path, slash, has_slash, parent, is_under}
use Rattle.lx_files.specs.Places.{pieces, parts}

slash_in : (xs ys : List ℕ) → has_slash (xs ++ slash ∷ ys) ≡ true
slash_in [] ys = refl
slash_in (x ∷ xs) ys = ap (λ b. (x == slash) || b) (slash_in xs ys) ∙ or_true (x == slash)
  where
    or_true : (b : Bool) → (b || true) ≡ true
    or_true true = refl
    or_true false = refl

-- what stands before the last name is the parent
pub parent_of_name : (xs name : List ℕ) → has_slash name ≡ false → parent (xs ++ slash ∷ name) ≡ xs
unfolding parent
parent_of_name [] name h = ap (λ b. cond b (slash ∷ parent name) []) h
parent_of_name (x ∷ xs) name h = ap (λ b. cond b (x ∷ parent (xs ++ slash ∷ name)) []) (slash_in xs name) ∙ ap (λ t. x ∷ t) (parent_of_name xs name h)

starts_anyhow : (bs : List ℕ) → starts_with nat_eq bs [] ≡ true
starts_anyhow [] = refl
starts_anyhow (b ∷ bs) = refl

-- a path with a slash is under its parent
slashed_under : (q : Path) → has_slash q ≡ true → is_under (parent q) q ≡ true
unfolding parent
slashed_under [] h = absurd (cc h)
slashed_under (b ∷ bs) h = go (has_slash bs) refl (slashed_under bs)
  where
    go : (t : Bool) → has_slash bs ≡ t → (has_slash bs ≡ true → is_under (parent bs) bs ≡ true) → starts_with nat_eq (b ∷ bs) (cond t (b ∷ parent bs) [] ++ slash ∷ []) ≡ true
    go true e later = let here : nat_eq b b ≡ true = grind (arith, nat_tests) in ap (λ t. t && starts_with nat_eq bs (parent bs ++ slash ∷ [])) here ∙ later e
    go false e later =
        let is : (b == slash) ≡ true = grind (arith, h, e) in
        let here : nat_eq slash b ≡ true = grind (arith, nat_tests, is) in
        ap (λ t. t && starts_with nat_eq bs []) here ∙ starts_anyhow bs

is_slashed : (q : Path) → (parent q ≡ [] → ⊥) → has_slash q ≡ true
unfolding parent
is_slashed [] unlike = absurd (unlike refl)
is_slashed (b ∷ bs) unlike = go (has_slash bs) refl
  where
    go : (t : Bool) → has_slash bs ≡ t → has_slash (b ∷ bs) ≡ true
    go true e = grind (arith, e)
    go false e = absurd (unlike (ap (λ t. cond t (b ∷ parent bs) []) e))

pub under_parent : (q path : Path) → parent q ≡ path → (path ≡ [] → ⊥) → is_under path q ≡ true
under_parent q path is other = subst (λ (r : Path). is_under r q ≡ true) is (slashed_under q (is_slashed q (λ e. other (sym is ∙ e))))

-- names have no slash

abbrev pub NoSlashes : List (List ℕ) → Type 0
NoSlashes [] = Unit {0}
NoSlashes (name ∷ names) = (has_slash name ≡ false) × NoSlashes names

onto : (x : ℕ) (names : List (List ℕ)) → (x == slash) ≡ false → NoSlashes names → NoSlashes (onto_first x names)
onto x [] e h = (grind (arith, e), tt)
onto x (name ∷ names) e h = (let rest = h.0 in grind (arith, e, rest), h.1)

pieces_bare : (text : List ℕ) → NoSlashes (pieces text)
pieces_bare [] = (refl, tt)
pieces_bare (x ∷ text) = go (x == slash) refl (pieces_bare text)
  where
    go : (t : Bool) → (x == slash) ≡ t → NoSlashes (pieces text) → NoSlashes (cond t ([] ∷ slice_split (λ b. b == slash) text) (onto_first x (slice_split (λ b. b == slash) text)))
    go true e rest = (refl, rest)
    go false e rest = onto x (pieces text) e rest

parts_bare : (names : List (List ℕ)) → NoSlashes names → NoSlashes (parts names)
parts_bare [] h = tt
parts_bare (name ∷ names) h = go (nat_lt 0 (length name)) (parts_bare names h.1)
  where
    go : (t : Bool) → NoSlashes (parts names) → NoSlashes (cond t (name ∷ parts names) (parts names))
    go true rest = (h.0, rest)
    go false rest = rest

pub names_bare : (text : List ℕ) → NoSlashes (parts (pieces text))
names_bare text = parts_bare (pieces text) (pieces_bare text)
