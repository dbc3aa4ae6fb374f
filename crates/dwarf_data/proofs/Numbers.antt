-- LEB128 byte by byte, and numbers one after the other.
use Rattle.std.proofs.Common.{◌≡◌, ℕ, zero, suc, ◌+◌, ◌-◌, ◌<◌, ◌≤◌, List, [], ◌∷◌, length, Bool, Option, Some, None, refl, sym, ap, ◌∙◌, arith}
use Rattle.std.proofs.lemmas.Bool.{lt-ltb, le-ltb}
use Rattle.dwarf_data.specs.Reading.{leb128_within, last_bits, sum, product, uleb128, behind_uleb128s}

-- ---- LEB128

pub leb_none : (signed : Bool) (bytes : List ℕ) → leb128_within signed 0 bytes ≡ None
unfolding leb128_within
leb_none signed bytes = refl

pub leb_empty : (signed : Bool) (count : ℕ) → leb128_within signed count [] ≡ None
unfolding leb128_within
leb_empty signed zero = refl
leb_empty signed (suc n) = refl

pub leb_short : (signed : Bool) (count : ℕ) (bytes : List ℕ) → length bytes ≡ 0 → leb128_within signed count bytes ≡ None
leb_short signed count [] e = leb_empty signed count
leb_short signed count (b ∷ bs) e = absurd (omega (arith, e))

pub leb_last : (signed : Bool) (count b : ℕ) (bs : List ℕ) → 0 < count → b < 128 → leb128_within signed count (b ∷ bs) ≡ Some (last_bits signed b, bs)
unfolding leb128_within
leb_last signed zero b bs lt last = absurd (omega arith)
leb_last signed (suc n) b bs lt last = rw (lt-ltb b 128 last) refl

pub leb_more : (signed : Bool) (count b : ℕ) (bs : List ℕ) (high : ℕ × List ℕ) → 0 < count → 128 ≤ b → leb128_within signed (count - 1) bs ≡ Some high
    → leb128_within signed count (b ∷ bs) ≡ Some (sum (b - 128) (product high.0 128), high.1)
unfolding leb128_within
leb_more signed zero b bs high lt more read = absurd (omega arith)
leb_more signed (suc n) b bs high lt more read =
    let k : suc n - 1 ≡ n = omega arith in
    let here : leb128_within signed n bs ≡ Some high = sym (ap (λ m. leb128_within signed m bs) k) ∙ read in
    rw (le-ltb b 128 more, here) refl

pub leb_cut : (signed : Bool) (count b : ℕ) (bs : List ℕ) → 0 < count → 128 ≤ b → leb128_within signed (count - 1) bs ≡ None
    → leb128_within signed count (b ∷ bs) ≡ None
unfolding leb128_within
leb_cut signed zero b bs lt more read = absurd (omega arith)
leb_cut signed (suc n) b bs lt more read =
    let k : suc n - 1 ≡ n = omega arith in
    let here : leb128_within signed n bs ≡ None = sym (ap (λ m. leb128_within signed m bs) k) ∙ read in
    rw (le-ltb b 128 more, here) refl

-- ---- numbers that are passed over

pub one_number : (count i x : ℕ) (bytes rest : List ℕ) (total : Option (List ℕ)) → i < count → uleb128 bytes ≡ Some (x, rest)
    → behind_uleb128s (count - i) bytes ≡ total → behind_uleb128s (count - (i + 1)) rest ≡ total
unfolding behind_uleb128s
one_number count i x bytes rest total lt read so_far =
    let k : count - i ≡ suc (count - (i + 1)) = omega arith in
    let here : behind_uleb128s (count - i) bytes ≡ behind_uleb128s (count - (i + 1)) rest = rw (k, read) refl in
    sym here ∙ so_far

pub bad_number : (count i : ℕ) (bytes : List ℕ) (total : Option (List ℕ)) → i < count → uleb128 bytes ≡ None
    → behind_uleb128s (count - i) bytes ≡ total → total ≡ None
unfolding behind_uleb128s
bad_number count i bytes total lt read so_far =
    let k : count - i ≡ suc (count - (i + 1)) = omega arith in
    let here : behind_uleb128s (count - i) bytes ≡ None = rw (k, read) refl in
    sym so_far ∙ here

pub no_number : (count i : ℕ) (bytes : List ℕ) (total : Option (List ℕ)) → count ≤ i
    → behind_uleb128s (count - i) bytes ≡ total → total ≡ Some bytes
unfolding behind_uleb128s
no_number count i bytes total le so_far =
    let k : count - i ≡ 0 = omega arith in
    let here : behind_uleb128s (count - i) bytes ≡ Some bytes = rw k refl in
    sym so_far ∙ here
