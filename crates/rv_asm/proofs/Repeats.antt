-- A name that stands twice among names, looked for from their end.
use Rattle.std.proofs.Common.{◌≡◌, ◌≢◌, inl, inr, ℕ, zero, suc, ◌-◌, ◌<◌, ◌≤◌, arith, List, [], ◌∷◌, ◌++◌, length, drop, get_or, Bool, true, false, Option, Some, None, Bor, refl, sym, ap, ◌∙◌}
use Rattle.std.specs.Prelude.{option_map, is_some, ◌||◌, if◌then◌else◌}
use Rattle.std.specs.List.{list_any}
use Rattle.std.specs.Option.{option_or}
use Rattle.std.specs.Cmp.Lexicographic.{bytes_decides}
use Rattle.std.proofs.lemmas.List.{at_drop_more}
use Rattle.rv_asm.specs.Codes.{Location, place_named}
use Rattle.rv_asm.specs.Listing.{repeats}
use Rattle.rv_syntax.specs.Text.{is_text, texts}
use Rattle.rv_asm.proofs.LabelIndex.{text_tells, place_named-append}

not_text : (a b : List ℕ) → a ≢ b → is_text a b ≡ false
not_text a b n = elim (text_tells a b) [ inl e ↦ absurd (n e.1) | inr e ↦ e.0 ]

same_text : (a b : List ℕ) → is_text a b ≡ is_text b a
same_text a b = elim (text_tells a b) [ inl e ↦ e.0 ∙ sym ((bytes_decides b a).1 (sym e.1)) | inr e ↦ e.0 ∙ sym (not_text b a (λ s. e.1 (sym s))) ]

either : (b : Bool) (o : Option Location) (p : Location) (c : Bool) → is_some o ≡ c → is_some (option_or o (if b then Some p else None)) ≡ b || c
either true None p c e = refl
either false None p c e = e
either true (Some q) p c e = refl
either false (Some q) p c e = e

-- names that were seen, and one more
pub seen_more : (ps : List Location) (p : Location) (names : List (List ℕ)) → ((w : List ℕ) → is_some (place_named ps w) ≡ list_any (is_text w) names)
    → (w : List ℕ) → is_some (place_named (ps ++ p ∷ []) w) ≡ list_any (is_text w) (p.name ∷ names)
seen_more ps p names seen w =
    ap is_some (place_named-append ps p w) ∙ either (is_text p.name w) (place_named ps w) p (list_any (is_text w) names) (seen w)
    ∙ ap (λ b. b || list_any (is_text w) names) (same_text p.name w)

both : (a b : Bool) → b ≡ true → a || b ≡ true
both true b e = refl
both false b e = e

-- a name that stands twice behind some place stands twice
pub repeats_behind : (n : ℕ) (ls : List (Bor (List ℕ))) → repeats (texts (drop n ls)) ≡ true → repeats (texts ls) ≡ true
repeats_behind zero ls e = e
repeats_behind (suc n) [] e = e
repeats_behind (suc n) (l ∷ ls) e = both (list_any (is_text l.now) (texts ls)) (repeats (texts ls)) (repeats_behind n ls e)

-- the names from the place before, and those from a place on
one_before : {A : Type 0} (f : List (List ℕ) → A) (ls : List (Bor (List ℕ))) (at : ℕ) (d : Bor (List ℕ)) → 0 < at → at ≤ length ls
    → f (texts (drop (at - 1) ls)) ≡ f ((get_or ls (at - 1) d).now ∷ texts (drop at ls))
one_before f ls at d some within =
    at_drop_more (λ (x : List (Bor (List ℕ))). f (texts x)) ls (at - 1) d (omega (arith, some, within))
    ∙ ap (λ (n : ℕ). f ((get_or ls (at - 1) d).now ∷ texts (drop n ls))) (omega (arith, some))

abbrev pub AreSeen : List Location → List (List ℕ) → Type 0
AreSeen ps names = (w : List ℕ) → is_some (place_named ps w) ≡ list_any (is_text w) names

mapped_some : {A : Type 0} (f : A → Location) (r : Option A) → is_some (option_map f r) ≡ is_some r
mapped_some f None = refl
mapped_some f (Some x) = refl

-- whether the name before is among those from a place on
stands_behind : {A : Type 0} (f : A → Location) (name : List ℕ) (names : List (List ℕ)) (ps : List Location) (r : Option A) → AreSeen ps names → option_map f r ≡ place_named ps name → list_any (is_text name) names ≡ is_some r
stands_behind f name names ps r seen found = sym (seen name) ∙ ap is_some (sym found) ∙ mapped_some f r

pub found_twice : {A : Type 0} (f : A → Location) (ls : List (Bor (List ℕ))) (at : ℕ) (d : Bor (List ℕ)) (ps : List Location) (r : Option A) → 0 < at → at ≤ length ls → AreSeen ps (texts (drop at ls))
    → option_map f r ≡ place_named ps (get_or ls (at - 1) d).now → is_some r ≡ true → repeats (texts ls) ≡ true
found_twice f ls at d ps r some within seen found there =
    let behind = stands_behind f (get_or ls (at - 1) d).now (texts (drop at ls)) ps r seen found ∙ there in
    repeats_behind (at - 1) ls (one_before repeats ls at d some within ∙ ap (λ b. b || repeats (texts (drop at ls))) behind)

pub found_once : {A : Type 0} (f : A → Location) (ls : List (Bor (List ℕ))) (at : ℕ) (d : Bor (List ℕ)) (ps : List Location) (r : Option A) → 0 < at → at ≤ length ls → AreSeen ps (texts (drop at ls))
    → option_map f r ≡ place_named ps (get_or ls (at - 1) d).now → is_some r ≡ false → repeats (texts (drop at ls)) ≡ false → repeats (texts (drop (at - 1) ls)) ≡ false
found_once f ls at d ps r some within seen found absent once =
    let behind = stands_behind f (get_or ls (at - 1) d).now (texts (drop at ls)) ps r seen found ∙ absent in
    one_before repeats ls at d some within ∙ ap (λ b. b || repeats (texts (drop at ls))) behind ∙ once

pub seen_before : (ls : List (Bor (List ℕ))) (at : ℕ) (d : Bor (List ℕ)) (ps qs : List Location) (p : Location) → 0 < at → at ≤ length ls → p.name ≡ (get_or ls (at - 1) d).now → qs ≡ ps ++ p ∷ []
    → AreSeen ps (texts (drop at ls)) → AreSeen qs (texts (drop (at - 1) ls))
seen_before ls at d ps qs p some within name more seen w =
    ap (λ (x : List Location). is_some (place_named x w)) more ∙ seen_more ps p (texts (drop at ls)) seen w
    ∙ ap (λ (n : List ℕ). list_any (is_text w) (n ∷ texts (drop at ls))) name ∙ sym (one_before (list_any (is_text w)) ls at d some within)
