-- What `from_str_radix` reads, and the numbers of texts.
use Rattle.std.proofs.Common.{ℕ, ◌≡◌, ◌<◌, ◌≢◌, ◌^◌, List, [], ◌∷◌, Some, None, Bool, true, false, ◌&&◌, Ok, get_or, refl, sym, ap, subst, arith, if◌then◌else◌}
use Rattle.std.specs.Str.Parse.{AllDigits, IsNumeral, digits_value, without_leading_plus}
use Rattle.std.specs.Bool.{then_some}
use Rattle.std.specs.Result.{OkIff}
use Rattle.std.proofs.lemmas.Str.Parse.{without_leading_plus_none}
use Rattle.std.proofs.lemmas.Bool.Decides.{nat_tests}
use Rattle.tr_expr.specs.Numbers.{all_digits, is_numeral, within, number}

pub digits_yes : (radix : ℕ) (ds : List ℕ) → AllDigits radix ds → all_digits radix ds ≡ true
digits_yes radix [] h = refl
digits_yes radix (c ∷ cs) h = let k = digits_yes radix cs h.1 in grind (arith, nat_tests, h.0, k)

pub digits_no : (radix : ℕ) (ds : List ℕ) → all_digits radix ds ≡ true → AllDigits radix ds
digits_no radix [] h = tt
digits_no radix (c ∷ cs) h = (grind (arith, nat_tests), digits_no radix cs (grind (arith, nat_tests)))

pub numeral_yes : (radix : ℕ) (ds : List ℕ) → IsNumeral radix ds → is_numeral radix ds ≡ true
numeral_yes radix ds h = let k = digits_yes radix ds h.1 in grind (arith, nat_tests, h.0)

pub numeral_no : (radix : ℕ) (ds : List ℕ) → is_numeral radix ds ≡ true → IsNumeral radix ds
numeral_no radix ds h = (grind (arith, nat_tests), digits_no radix ds (grind (arith, nat_tests)))

-- what from_str_radix gives for a text without a plus in front, where it is within the range
ranged : (w a : Bool) (v n : ℕ) → a ≡ true → n ≡ v → then_some w n ≡ (if a && w then Some v else None)
ranged true true v n e k = ap Some k
ranged false true v n e k = refl
ranged w false v n e k = cc

pub parsed : (radix low high n : ℕ) (ds : List ℕ) → get_or ds 0 0 ≢ 43 → OkIff {E = Unit {0}} (Ok n) (IsNumeral radix (without_leading_plus ds) × (digits_value radix (without_leading_plus ds) < 2 ^ 64)) (digits_value radix (without_leading_plus ds)) → then_some (within low high n) n ≡ number radix low high ds
parsed radix low high n ds p h =
    let k = rw (without_leading_plus_none ds p) at h in
    let v : n ≡ digits_value radix ds = k.1 in
    subst (λ m. then_some (within low high m) m ≡ number radix low high ds) (sym v)
    (ranged (within low high (digits_value radix ds)) (is_numeral radix ds) (digits_value radix ds) (digits_value radix ds) (numeral_yes radix ds k.0.0) refl)

refused : (a w : Bool) (v : ℕ) → (a ≡ true → w ≡ true → ⊥) → None ≡ (if a && w then Some v else None)
refused true true v h = absurd (h refl refl)
refused true false v h = refl
refused false w v h = refl

small : (low high v : ℕ) → high < 2 ^ 64 → within low high v ≡ true → v < 2 ^ 64
small low high v m h = grind (arith, nat_tests)

pub unread : (radix low high : ℕ) (ds : List ℕ) → high < 2 ^ 64 → get_or ds 0 0 ≢ 43 → (IsNumeral radix (without_leading_plus ds) × (digits_value radix (without_leading_plus ds) < 2 ^ 64) → ⊥) → None ≡ number radix low high ds
unread radix low high ds m p h =
    let k = rw (without_leading_plus_none ds p) at h in
    refused (is_numeral radix ds) (within low high (digits_value radix ds)) (digits_value radix ds)
    (λ a w. k (numeral_no radix ds a, small low high (digits_value radix ds) m w))
