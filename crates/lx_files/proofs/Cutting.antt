-- A text cut at its first slash.
use Rattle.std.proofs.Common.{◌≡◌, ℕ, suc, ◌+◌, ◌-◌, ◌<◌, Bool, true, false, cond, List, [], ◌∷◌, length, take, drop, drop-drop, Some, None, refl, ap, sym, subst, ◌∙◌, arith}
use Rattle.std.proofs.lemmas.Bool.Decides.{nat_tests}
use Rattle.std.proofs.lemmas.List.Splits.{slice_split_first}
use Rattle.std.proofs.lemmas.List.{take_all, length-drop}
use Rattle.std.specs.Prelude.{◌==◌, ◌||◌, nat_lt, not}
use Rattle.std.specs.List.{position_or_len}
use Rattle.lx_files.specs.Paths.{slash, has_slash}
use Rattle.lx_files.specs.Folders.{split, first_slash}

is_slash : ℕ → Bool
is_slash b = b == slash

abbrev place : List ℕ → ℕ
place text = position_or_len (λ b. b == slash) text

bare_before : (text : List ℕ) → has_slash (take (place text) text) ≡ false
bare_before [] = refl
bare_before (x ∷ text) = go (x == slash) refl (bare_before text)
  where
    go : (b : Bool) → (x == slash) ≡ b → has_slash (take (place text) text) ≡ false → has_slash (take (cond (not b) (1 + place text) 0) (x ∷ text)) ≡ false
    go true e rest = refl
    go false e rest = let next : 1 + place text ≡ suc (place text) = omega arith in ap (λ n. has_slash (take n (x ∷ text))) next ∙ ap (λ c. c || has_slash (take (place text) text)) e ∙ rest

bare_all : (text : List ℕ) → ¬ (place text < length text) → has_slash text ≡ false
bare_all [] none = refl
bare_all (x ∷ text) none = go (x == slash) refl none (bare_all text)
  where
    go : (b : Bool) → (x == slash) ≡ b → ¬ (cond (not b) (1 + place text) 0 < length (x ∷ text)) → (¬ (place text < length text) → has_slash text ≡ false) → has_slash (x ∷ text) ≡ false
    go true e none rest = absurd (none (omega arith))
    go false e none rest = ap (λ c. c || has_slash text) e ∙ rest (λ lt. none (omega (arith, lt)))

pub record IsCut (text : List ℕ) (n : ℕ) : Type 0 where
  pub within : n < length text
  pub bare : has_slash (take n text) ≡ false
  pub parts : split text ≡ take n text ∷ split (drop (n + 1) text)

pub cut : (text : List ℕ) (n : ℕ) → Some n ≡ first_slash text → IsCut text n
cut text n h = go (nat_lt (place text) (length text)) refl h
  where
    go : (b : Bool) → nat_lt (place text) (length text) ≡ b → Some n ≡ cond b (Some (place text)) None → IsCut text n
    go false e i = absurd (cc i)
    go true e i =
        let lt : place text < length text = grind (arith, nat_tests, e) in
        let is : n ≡ place text = cc i in
        subst (IsCut text) (sym is) (record { within = lt; bare = bare_before text; parts = slice_split_first (λ b. b == slash) text 0 lt })

pub uncut : (text : List ℕ) → None ≡ first_slash text → has_slash text ≡ false
uncut text h = go (nat_lt (place text) (length text)) refl h
  where
    go : (b : Bool) → nat_lt (place text) (length text) ≡ b → None ≡ cond b (Some (place text)) None → has_slash text ≡ false
    go true e i = absurd (cc i)
    go false e i = bare_all text (grind (arith, nat_tests, e))

-- what follows the slash
pub cut_rest : (text : List ℕ) (n : ℕ) → drop 1 (take (length text - n) (drop n text)) ≡ drop (n + 1) text
cut_rest text n = ap (drop 1) (take_all (length text - n) (drop n text) (omega (arith, length-drop n text))) ∙ drop-drop 1 n text

-- where it is cut, a slash stands
at_place : (text : List ℕ) → place text < length text → drop (place text) text ≡ slash ∷ drop (place text + 1) text
at_place [] lt = absurd (omega (arith, lt))
at_place (x ∷ text) lt = go (x == slash) refl lt (at_place text)
  where
    go : (b : Bool) → (x == slash) ≡ b → cond (not b) (1 + place text) 0 < length (x ∷ text) → (place text < length text → drop (place text) text ≡ slash ∷ drop (place text + 1) text)
        → drop (cond (not b) (1 + place text) 0) (x ∷ text) ≡ slash ∷ drop (cond (not b) (1 + place text) 0 + 1) (x ∷ text)
    go true e lt rest = ap (λ z. z ∷ text) (grind (arith, nat_tests, e))
    go false e lt rest =
        let first : 1 + place text ≡ suc (place text) = omega arith in
        let second : (1 + place text) + 1 ≡ suc (place text + 1) = omega arith in
        ap (λ n. drop n (x ∷ text)) first ∙ rest (omega (arith, lt)) ∙ sym (ap (λ n. slash ∷ drop n (x ∷ text)) second)

pub slash_there : (text : List ℕ) (n : ℕ) → Some n ≡ first_slash text → drop n text ≡ slash ∷ drop (n + 1) text
slash_there text n h = go (nat_lt (place text) (length text)) refl h
  where
    go : (b : Bool) → nat_lt (place text) (length text) ≡ b → Some n ≡ cond b (Some (place text)) None → drop n text ≡ slash ∷ drop (n + 1) text
    go false e i = absurd (cc i)
    go true e i =
        let is : n ≡ place text = cc i in
        subst (λ m. drop m text ≡ slash ∷ drop (m + 1) text) (sym is) (at_place text (grind (arith, nat_tests, e)))
