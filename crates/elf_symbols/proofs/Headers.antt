-- Section headers one after the other, until one is a symbol table's.
use Rattle.std.proofs.Common.{ℕ, suc, ◌≡◌, ◌+◌, ◌-◌, ◌<◌, ◌≤◌, ◌∙◌, List, length, eqb, Option, Some, None, true, false, refl, sym, arith}
use Rattle.std.proofs.lemmas.Bool.{lt-ltb, le-ltb}
use Rattle.elf_image.specs.Fields.{number_at}
use Rattle.elf_symbols.specs.Sections.{header_from}

-- a header of another type
pub other_header : (bytes : List ℕ) (at count i : ℕ) (total : Option ℕ) → i < count → at + 64 ≤ length bytes → eqb (number_at 4 (at + 4) bytes) 2 ≡ false
    → header_from bytes at (count - i) ≡ total → header_from bytes (at + 64) (count - (i + 1)) ≡ total
unfolding header_from
other_header bytes at count i total lt inside other so_far =
    let k : count - i ≡ suc (count - (i + 1)) = omega arith in
    let here : header_from bytes at (count - i) ≡ header_from bytes (at + 64) (count - (i + 1)) = rw (k, le-ltb _ _ inside, other) refl in
    sym here ∙ so_far

-- a symbol table's
pub header_here : (bytes : List ℕ) (at count i : ℕ) (total : Option ℕ) → i < count → at + 64 ≤ length bytes → eqb (number_at 4 (at + 4) bytes) 2 ≡ true
    → header_from bytes at (count - i) ≡ total → Some at ≡ total
unfolding header_from
header_here bytes at count i total lt inside same so_far =
    let k : count - i ≡ suc (count - (i + 1)) = omega arith in
    let here : header_from bytes at (count - i) ≡ Some at = rw (k, le-ltb _ _ inside, same) refl in
    sym here ∙ so_far

-- the end of the file
pub header_outside : (bytes : List ℕ) (at count i : ℕ) (total : Option ℕ) → i < count → length bytes < at + 64
    → header_from bytes at (count - i) ≡ total → None ≡ total
unfolding header_from
header_outside bytes at count i total lt outside so_far =
    let k : count - i ≡ suc (count - (i + 1)) = omega arith in
    let here : header_from bytes at (count - i) ≡ None = rw (k, lt-ltb _ _ outside) refl in
    sym here ∙ so_far

-- the last header is behind
pub no_header_left : (bytes : List ℕ) (at count i : ℕ) (total : Option ℕ) → count ≤ i → header_from bytes at (count - i) ≡ total → None ≡ total
unfolding header_from
no_header_left bytes at count i total past so_far =
    let k : count - i ≡ 0 = omega arith in
    let here : header_from bytes at (count - i) ≡ None = rw k refl in
    sym here ∙ so_far
