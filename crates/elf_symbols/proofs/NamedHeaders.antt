-- Section headers one after the other, until one has the name.
use Rattle.std.proofs.Common.{ℕ, suc, ◌≡◌, ◌+◌, ◌-◌, ◌<◌, ◌≤◌, ◌∙◌, List, length, Option, Some, None, true, false, refl, sym, arith}
use Rattle.std.proofs.lemmas.Bool.{lt-ltb, le-ltb}
use Rattle.elf_symbols.specs.Named.{named_from, is_named}

-- a header of another name
pub other_header : (name bytes names : List ℕ) (at count i : ℕ) (total : Option ℕ) → i < count → at + 64 ≤ length bytes → is_named name bytes names at ≡ false
    → named_from name bytes names at (count - i) ≡ total → named_from name bytes names (at + 64) (count - (i + 1)) ≡ total
unfolding named_from
other_header name bytes names at count i total lt inside other so_far =
    let k : count - i ≡ suc (count - (i + 1)) = omega arith in
    let here : named_from name bytes names at (count - i) ≡ named_from name bytes names (at + 64) (count - (i + 1)) = rw (k, le-ltb _ _ inside, other) refl in
    sym here ∙ so_far

-- one of this name
pub header_here : (name bytes names : List ℕ) (at count i : ℕ) (total : Option ℕ) → i < count → at + 64 ≤ length bytes → is_named name bytes names at ≡ true
    → named_from name bytes names at (count - i) ≡ total → Some at ≡ total
unfolding named_from
header_here name bytes names at count i total lt inside same so_far =
    let k : count - i ≡ suc (count - (i + 1)) = omega arith in
    let here : named_from name bytes names at (count - i) ≡ Some at = rw (k, le-ltb _ _ inside, same) refl in
    sym here ∙ so_far

-- the end of the file
pub header_outside : (name bytes names : List ℕ) (at count i : ℕ) (total : Option ℕ) → i < count → length bytes < at + 64
    → named_from name bytes names at (count - i) ≡ total → None ≡ total
unfolding named_from
header_outside name bytes names at count i total lt outside so_far =
    let k : count - i ≡ suc (count - (i + 1)) = omega arith in
    let here : named_from name bytes names at (count - i) ≡ None = rw (k, lt-ltb _ _ outside) refl in
    sym here ∙ so_far

-- the last header is behind
pub no_header_left : (name bytes names : List ℕ) (at count i : ℕ) (total : Option ℕ) → count ≤ i → named_from name bytes names at (count - i) ≡ total → None ≡ total
unfolding named_from
no_header_left name bytes names at count i total past so_far =
    let k : count - i ≡ 0 = omega arith in
    let here : named_from name bytes names at (count - i) ≡ None = rw k refl in
    sym here ∙ so_far
