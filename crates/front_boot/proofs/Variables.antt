-- The variables of words, read from the last word to the first.
use Rattle.std.proofs.Common.{◌≡◌, ℕ, Bool, true, false, ◌||◌, List, [], ◌∷◌, ◌++◌, map, reverse, Option, Some, None, refl, sym, ap, ◌∙◌, append_assoc}
use Rattle.std.proofs.Common.{arith, subst, ◌<◌, ◌&&◌, length, get_or, is_some}
use Rattle.std.specs.List.{list_all, list_any}
use Rattle.std.specs.Ordering.{is_eq, nat_cmp}
use Rattle.std.specs.Cmp.Lexicographic.{slice_cmp}
use Rattle.std.specs.Prelude.{cond}
use Rattle.std.specs.Borrow.{Bor}
use Rattle.std.specs.BTreeSet.{BTreeSet}
use Rattle.std.proofs.lemmas.List.{map-append, reverse-append, reverse-reverse}
use Rattle.std.proofs.lemmas.List.Folds.{list_all_at}
use Rattle.front_boot.specs.Environment.{HasMore, are_variables, environment, has, has_in, is_named, is_set_by, name_of, set_by, with_word}

pub map_reverse : {A B : Type 0} (f : A → B) (xs : List A) → map f (reverse xs) ≡ reverse (map f xs)
map_reverse f [] = refl
map_reverse f (x ∷ xs) =
    ap (map f) (reverse-append (x ∷ []) xs) ∙ map-append f (reverse xs) (x ∷ [])
    ∙ ap (λ ys. ys ++ f x ∷ []) (map_reverse f xs) ∙ sym (reverse-append (f x ∷ []) (map f xs))

spread : {A B : Type 0} (p : B → Bool) (f : A → B) (xs : List A) → list_all p (map f xs) ≡ list_all (λ x. p (f x)) xs
spread p f [] = refl
spread p f (x ∷ xs) = ap (λ b. p (f x) && b) (spread p f xs)

-- a word that sets no variable
pub malformed : (words : List (Bor (List ℕ))) (k : ℕ) (d : Bor (List ℕ)) → k < length words
    → None ≡ name_of (get_or words k d).now → are_variables (map (λ word. word.now) words) ≡ false
malformed words k d less is =
    spread (λ word. is_some (name_of word)) (λ word. word.now) words
    ∙ list_all_at (λ word. is_some (name_of word.now)) words k d less (ap is_some (sym is))

pub none_noted : (names : BTreeSet (Bor (List ℕ))) (n : List ℕ) → names.keys ≡ [] → has names n ≡ false
none_noted names n e = subst (λ ks. list_any (λ k. is_eq (slice_cmp nat_cmp n k.now)) ks ≡ false) (sym e) refl

pub nothing_left : {X : Type 0} (l : List X) → length l ≡ 0 → l ≡ []
nothing_left [] h = refl
nothing_left (x ∷ xs) h = absurd (omega arith)

-- one more word is read
pub seam : {A B : Type 0} (f : A → B) (before rest : List A) (x : A) (done all : List B)
    → before ≡ rest ++ x ∷ [] → map f before ++ done ≡ all → map f rest ++ f x ∷ done ≡ all
seam f before rest x done all split whole =
    sym (append_assoc (map f rest) (f x ∷ []) done)
    ∙ ap (λ ys. ys ++ done) (sym (map-append f rest (x ∷ [])) ∙ sym (ap (map f) split)) ∙ whole

either : (b x : Bool) → cond b true x ≡ b || x
either true x = refl
either false x = refl

-- its name is noted
pub noted : (o : Option (List ℕ)) (old new : BTreeSet (Bor (List ℕ))) (done : List (List ℕ)) → HasMore o old new
    → ((n : List ℕ) → has old n ≡ set_by done n) → (n : List ℕ) → has new n ≡ is_named n o || set_by done n
noted None old new done more before n = more n ∙ before n
noted (Some name) old new done more before n = more n ∙ ap (cond _ true) (before n) ∙ either _ (set_by done n)

same : (o : Option (List ℕ)) (names : BTreeSet (Bor (List ℕ))) (done : List (List ℕ))
    → ((n : List ℕ) → has names n ≡ set_by done n) → has_in names o ≡ is_set_by done o
same None names done before = refl
same (Some name) names done before = before name

one_more : (b : Bool) (word : List ℕ) (kept words : List (List ℕ)) → kept ≡ reverse words
    → with_word b word kept ≡ reverse (cond b words (word ∷ words))
one_more true word kept words is = is
one_more false word kept words is = ap (λ k. k ++ word ∷ []) is ∙ sym (reverse-append (word ∷ []) words)

-- and it is kept, unless a later one sets its variable
pub kept_more : (word : List ℕ) (names : BTreeSet (Bor (List ℕ))) (done kept : List (List ℕ))
    → ((n : List ℕ) → has names n ≡ set_by done n) → kept ≡ reverse (environment done)
    → with_word (has_in names (name_of word)) word kept ≡ reverse (environment (word ∷ done))
kept_more word names done kept before is =
    ap (λ b. with_word b word kept) (same (name_of word) names done before)
    ∙ one_more (is_set_by done (name_of word)) word kept (environment done) is
