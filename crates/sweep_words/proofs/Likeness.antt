-- Texts that are like patterns.
use Rattle.std.proofs.Common.{◌≡◌, ◌≢◌, ◌+◌, ◌-◌, ◌≤◌, ◌<◌, ℕ, suc, Bool, true, false, List, [], ◌∷◌, ◌++◌, length}
use Rattle.std.proofs.Common.{take, drop, get_or, arith, refl, sym, ap, ap₂, subst, ◌∙◌, append_assoc, ⊎_elim}
use Rattle.std.specs.Prelude.{◌==◌, ◌&&◌, ⊤}
use Rattle.std.specs.Bool.{MatchBool}
use Rattle.std.specs.Cmp.Lexicographic.{pointwise}
use Rattle.std.proofs.Math.Utf8.{encode}
use Rattle.std.proofs.lemmas.Bool.Decides.{nat_tests}
use Rattle.std.proofs.Math.Seq.{drop-append-add, drop-append_seam}
use Rattle.std.proofs.lemmas.Bool.{cases_lt, ne_eqb}
use Rattle.std.proofs.lemmas.List.{take-append-drop, drop-drop, drop_at}
use Rattle.std.specs.Str.Pattern.{HasTextAt, LacksTextAt}
use Rattle.sweep_words.specs.Known.{star, IsBehind, IsLike}

-- what is behind a character, or behind anything
behind_first : (b : Bool) (c : ℕ) (Q : List ℕ → Type 0) (rest : List ℕ) → Q rest → IsBehind b c Q (c ∷ rest)
behind_first true c Q rest h = (c ∷ [], rest, refl, h)
behind_first false c Q rest h = (rest, refl, h)

-- a text that begins as its pattern does
pub begins_like : (front text pattern : List ℕ) → IsLike text pattern → IsLike (front ++ text) (front ++ pattern)
begins_like [] text pattern h = h
begins_like (c ∷ cs) text pattern h =
    behind_first (c == 42) c (λ rest. IsLike rest (cs ++ pattern)) (cs ++ text) (begins_like cs text pattern h)

-- each text is like itself
pub like_itself : (text : List ℕ) → IsLike text text
like_itself [] = refl
like_itself (c ∷ cs) = behind_first (c == 42) c (λ rest. IsLike rest cs) cs (like_itself cs)

-- a text with anything before
pub anything_before : (front rest text pattern : List ℕ) → text ≡ front ++ rest → IsLike rest pattern → IsLike text (star pattern)
anything_before front rest text pattern e h = (front, rest, e, h)

-- what a text has before and behind a part of it
pub around : (text front part back : List ℕ) (i j : ℕ) → front ≡ take i text → back ≡ drop j text → drop i text ≡ part ++ drop j text
    → text ≡ front ++ (part ++ back)
around text front part back i j before behind there =
    sym (take-append-drop i text) ∙ ap₂ (λ xs ys. xs ++ ys) (sym before) (there ∙ ap (λ ys. part ++ ys) (sym behind))

pub around_star : (text front back : List ℕ) (i j : ℕ) → front ≡ take i text → back ≡ drop j text → drop i text ≡ encode 42 ++ drop j text
    → text ≡ front ++ star back
unfolding encode
around_star text front back i j before behind there = around text front (42 ∷ []) back i j before behind there

-- a piece is found, and then the rest of the pattern
pub piece_found : (left front piece rest others more : List ℕ) → left ≡ front ++ (piece ++ rest) → others ≡ piece ++ star more
    → IsLike rest (star more) → IsLike left (star others)
piece_found left front piece rest others more is pattern h =
    anything_before front (piece ++ rest) left others is
    (subst (λ p. IsLike (piece ++ rest) p) (sym pattern) (begins_like piece rest (star more) h))

-- the last piece ends the text
pub ends_with_it : (left front others : List ℕ) → left ≡ front ++ others → IsLike left (star others)
ends_with_it left front others is = anything_before front others left others is (like_itself others)

-- Equal texts

equal_numbers : (m n : ℕ) → (m == n) ≡ true → m ≡ n
equal_numbers m n h = grind (arith, nat_tests)

pub same_texts : (xs ys : List ℕ) → pointwise ◌==◌ xs ys ≡ true → xs ≡ ys
same_texts [] [] h = refl
same_texts [] (y ∷ ys) h = absurd (cc h)
same_texts (x ∷ xs) [] h = absurd (cc h)
same_texts (x ∷ xs) (y ∷ ys) h = go (x == y) refl h (same_texts xs ys)
  where
    go : (b : Bool) → (x == y) ≡ b → (b && pointwise ◌==◌ xs ys) ≡ true → (pointwise ◌==◌ xs ys ≡ true → xs ≡ ys) → x ∷ xs ≡ y ∷ ys
    go true e h more = ap₂ (λ z zs. z ∷ zs) (equal_numbers x y e) (more h)
    go false e h more = absurd (cc h)

-- what a test says where it holds
pub on_true : (A B : Type 0) (b : Bool) → MatchBool b A B → b ≡ true → A
on_true A B true m e = m
on_true A B false m e = absurd (cc e)

pub on_false : (A B : Type 0) (b : Bool) → MatchBool b A B → b ≡ false → B
on_false A B true m e = absurd (cc e)
on_false A B false m e = m

-- Texts that aren't like a pattern

-- a text without a `*`
abbrev pub Starless : List ℕ → Type 0
Starless [] = ⊤
Starless (c ∷ cs) = ((c == 42) ≡ false) × Starless cs

pub starless : (text : List ℕ) → ((i : ℕ) → i < length text → get_or text i 0 ≢ 42) → Starless text
starless [] none = tt
starless (c ∷ cs) none = (ne_eqb c 42 (none 0 (omega arith)), starless cs (λ i within. none (suc i) (omega (arith, within))))

-- what is behind a piece without a `*`
pub behind_piece : (piece pattern text : List ℕ) → Starless piece → IsLike text (piece ++ pattern)
    → (rest : List ℕ) × (text ≡ piece ++ rest) × IsLike rest pattern
behind_piece [] pattern text none h = (text, refl, h)
behind_piece (c ∷ cs) pattern text none h =
    let first = subst (λ b. IsBehind b c (λ rest. IsLike rest (cs ++ pattern)) text) none.0 h in
    let more = behind_piece cs pattern first.0 none.1 first.2 in
    (more.0, first.1 ∙ ap (λ rest. c ∷ rest) more.1, more.2)

pub like_starless : (text pattern : List ℕ) → Starless pattern → IsLike text pattern → text ≡ pattern
like_starless text [] none h = h
like_starless text (c ∷ cs) none h =
    let first = subst (λ b. IsBehind b c (λ rest. IsLike rest cs) text) none.0 h in
    first.1 ∙ ap (λ rest. c ∷ rest) (like_starless first.0 cs none.1 first.2)

-- with more before it a text ends as the pattern does too
more_before : (front text pattern : List ℕ) → IsLike text (star pattern) → IsLike (front ++ text) (star pattern)
more_before front text pattern h =
    (front ++ h.0, h.1, ap (λ t. front ++ t) h.2 ∙ sym (append_assoc front h.0 h.1), h.3)

-- behind the first place of a piece there is all that is behind another
behind_first_place : (left piece rest : List ℕ) (i j : ℕ) → ((k : ℕ) → k < i → LacksTextAt piece left k)
    → HasTextAt piece left i j → rest ≡ drop j left → (front back : List ℕ) → left ≡ front ++ (piece ++ back)
    → (between : List ℕ) × (rest ≡ between ++ back)
behind_first_place left piece rest i j lacks has is front back there =
    let n = length front in
    let later : i ≤ n = ⊎_elim (λ before. absurd (lacks n before back (ap (drop n) there ∙ drop_at front (piece ++ back) n refl))) (λ h. h) (cases_lt n i) in
    let sum : j + (n - i) ≡ n + length piece = omega (arith, later, has.ends) in
    let behind : drop (n - i) rest ≡ back =
    ap (drop (n - i)) is ∙ drop-drop (n - i) j left ∙ ap (λ k. drop k left) sum
    ∙ ap (drop (n + length piece)) there ∙ drop-append-add front (piece ++ back) (length piece) ∙ drop-append_seam piece back in
    (take (n - i) rest, sym (take-append-drop (n - i) rest) ∙ ap (λ t. take (n - i) rest ++ t) behind)

-- the rest of the text is like the rest of the pattern, where the piece was found at its first place
pub rest_is_like : (left piece rest others more : List ℕ) (i j : ℕ) → ((k : ℕ) → k < i → LacksTextAt piece left k)
    → HasTextAt piece left i j → rest ≡ drop j left → Starless piece → others ≡ piece ++ star more
    → IsLike left (star others) → IsLike rest (star more)
rest_is_like left piece rest others more i j lacks has is none pattern like =
    let h : IsLike left (star (piece ++ star more)) = subst (λ p. IsLike left (star p)) pattern like in
    let b = behind_piece piece (star more) h.1 none h.3 in
    let g = behind_first_place left piece rest i j lacks has is h.0 b.0 (h.2 ∙ ap (λ r. h.0 ++ r) b.1) in
    subst (λ t. IsLike t (star more)) (sym g.1) (more_before g.0 b.0 more b.2)

-- the piece is nowhere
pub no_piece : (left piece others more : List ℕ) → Starless piece → others ≡ piece ++ star more
    → ((front back : List ℕ) → left ≢ front ++ (piece ++ back)) → IsLike left (star others) → ⊥
no_piece left piece others more none pattern nowhere like =
    let h : IsLike left (star (piece ++ star more)) = subst (λ p. IsLike left (star p)) pattern like in
    let b = behind_piece piece (star more) h.1 none h.3 in
    nowhere h.0 b.0 (h.2 ∙ ap (λ r. h.0 ++ r) b.1)

-- the text ends otherwise
pub other_end : (left others : List ℕ) → Starless others → ((front : List ℕ) → left ≢ front ++ others) → IsLike left (star others) → ⊥
other_end left others none otherwise h = otherwise h.0 (h.2 ∙ ap (λ r. h.0 ++ r) (like_starless h.1 others none h.3))

-- equal texts are the same to a test
pub test_of_same : (text : List ℕ) → pointwise ◌==◌ text text ≡ true
test_of_same [] = refl
test_of_same (c ∷ cs) = ap₂ (λ a b. a && b) (same_number c) (test_of_same cs)
  where
    same_number : (n : ℕ) → (n == n) ≡ true
    same_number n = grind (arith, nat_tests)

-- what is behind the same front is the same
pub same_behind : (front one other : List ℕ) → front ++ one ≡ front ++ other → one ≡ other
same_behind front one other is =
    sym (drop-append_seam front one) ∙ ap (drop (length front)) is ∙ drop-append_seam front other
