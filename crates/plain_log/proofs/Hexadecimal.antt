-- How bytes are written in hexadecimal, the last digit first.
use Rattle.std.proofs.Common.{ℕ, zero, suc, ◌≡◌, ◌<◌, ◌≤◌, ◌+◌, ◌-◌, ◌*◌, ◌/◌, ◌%◌, ◌^◌, ◌==◌, Bool, true, false, cond, List, [], ◌∷◌, ◌++◌, ap, ◌∙◌, sym, refl, ◌⊎◌, inl, inr, ⊎_elim, arith, subst}
use Rattle.std.proofs.lemmas.Bool.Decides.{nat_tests}
use Rattle.std.proofs.Math.Nat.{div-div-eq-div-mul, pow-succ'}
use Rattle.std.specs.Fmt.{digits, digits_onto, digit_glyph}

-- what is put before an accumulated text is put before what follows it
pub put_before : (k base n : ℕ) (upper : Bool) (xs ys : List ℕ)
    → digits_onto k base upper n (xs ++ ys) ≡ digits_onto k base upper n xs ++ ys
put_before zero base n upper xs ys = refl
put_before (suc k) base n upper xs ys = by_test (n / base == 0) (put_before k base (n / base) upper (digit_glyph upper (n % base) ∷ xs) ys)
  where
    by_test : (b : Bool) → digits_onto k base upper (n / base) (digit_glyph upper (n % base) ∷ (xs ++ ys)) ≡ digits_onto k base upper (n / base) (digit_glyph upper (n % base) ∷ xs) ++ ys
        → cond b (digit_glyph upper (n % base) ∷ (xs ++ ys)) (digits_onto k base upper (n / base) (digit_glyph upper (n % base) ∷ (xs ++ ys)))
        ≡ cond b (digit_glyph upper (n % base) ∷ xs) (digits_onto k base upper (n / base) (digit_glyph upper (n % base) ∷ xs)) ++ ys
    by_test true e = refl
    by_test false e = e

-- a number's digits before a text
pub before_text : (n : ℕ) (ys : List ℕ) → digits_onto 64 16 false n ys ≡ digits 16 false n ++ ys
unfolding digits
before_text n ys = put_before 64 16 n false [] ys

pub last_digit : (k n : ℕ) (acc : List ℕ) → n / 16 ≡ 0 → digits_onto (suc k) 16 false n acc ≡ digit_glyph false (n % 16) ∷ acc
last_digit k n acc e = ap (λ q. cond (q == 0) (digit_glyph false (n % 16) ∷ acc) (digits_onto k 16 false q (digit_glyph false (n % 16) ∷ acc))) e

pub more_digits : (k n : ℕ) (acc : List ℕ) → 0 < n / 16 → digits_onto (suc k) 16 false n acc ≡ digits_onto k 16 false (n / 16) (digit_glyph false (n % 16) ∷ acc)
more_digits k n acc some =
    let test : (n / 16 == 0) ≡ false = grind (arith, nat_tests, some) in
    ap (λ b. cond b (digit_glyph false (n % 16) ∷ acc) (digits_onto k 16 false (n / 16) (digit_glyph false (n % 16) ∷ acc))) test

-- what is left of a number, and the text so far, after so many digits
pub record Puts (number made rest : ℕ) (old text : List ℕ) : Type 0 where
  pub same : digits_onto 64 16 false number old ≡ digits_onto (64 - made) 16 false rest text
  pub quotient : rest ≡ number / 16 ^ made
  pub some : (made ≡ 0) ⊎ (0 < rest)

pub puts_first : (number : ℕ) (old : List ℕ) → Puts number 0 number old old
puts_first number old = record { same = refl; quotient = omega arith; some = inl refl }

fuel : (made : ℕ) → made < 16 → 64 - made ≡ suc (63 - made)
fuel made lt = omega (arith, lt)

powers : (m : ℕ) → 16 ^ m * 16 ≡ 16 ^ (m + 1)
powers m =
    let next : m + 1 ≡ suc m = omega arith in
    omega (arith, pow-succ' 16 m, ap (λ k. 16 ^ k) next)

pub puts_more : (number made rest : ℕ) (old text : List ℕ) → made < 16 → 0 < rest / 16 → Puts number made rest old text
    → Puts number (made + 1) (rest / 16) old (digit_glyph false (rest % 16) ∷ text)
puts_more number made rest old text lt some p = record {
  same = p.same ∙ ap (λ k. digits_onto k 16 false rest text) (fuel made lt) ∙ more_digits (63 - made) rest text some
      ∙ ap (λ k. digits_onto k 16 false (rest / 16) (digit_glyph false (rest % 16) ∷ text)) (omega (arith, lt));
  quotient = ap (λ q. q / 16) p.quotient ∙ div-div-eq-div-mul number (16 ^ made) 16 ∙ ap (λ q. number / q) (powers made);
  some = inr some;
}

pub puts_last : (number made rest : ℕ) (old text : List ℕ) → made < 16 → rest / 16 ≡ 0 → Puts number made rest old text
    → digit_glyph false (rest % 16) ∷ text ≡ digits 16 false number ++ old
puts_last number made rest old text lt none p =
    sym (sym (before_text number old) ∙ p.same ∙ ap (λ k. digits_onto k 16 false rest text) (fuel made lt) ∙ last_digit (63 - made) rest text none)

-- a number of 64 bits has no digit left after sixteen
pub puts_end : (number rest : ℕ) (old text : List ℕ) → number < 2 ^ 64 → Puts number 16 rest old text → rest ≡ 0
puts_end number rest old text lt p = p.quotient ∙ (omega (arith, lt))
