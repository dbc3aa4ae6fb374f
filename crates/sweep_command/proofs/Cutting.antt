-- Batches of rows, and those that are told of them.
use Rattle.std.proofs.Common.{◌≡◌, ◌<◌, ◌≤◌, ℕ, zero, suc, Bool, true, false, List, [], ◌∷◌, ◌++◌, length, map, take, refl, sym, ap, ap₂, subst, ◌∙◌, arith, inl, inr, length-append}
use Rattle.std.specs.Prelude.{◌&&◌, Some, min}
use Rattle.std.specs.List.{All, slice_get}
use Rattle.std.proofs.Math.Seq.{take-length}
use Rattle.std.proofs.lemmas.List.{map-append, take-map, length-take, length-map}
use Rattle.std.proofs.lemmas.List.Elements.{All-take, All-append}
use Rattle.sweep_report.specs.Findings.{counts}
use Rattle.sweep_rows.specs.declared.verdicts.Reached.{Reached}
use Rattle.sweep_rows.specs.declared.wanted.Case.{Case}
use Rattle.sweep_rows.specs.declared.setup.Setup.{Setup}
use Rattle.sweep_rows.specs.declared.row.Row.{Row}
use Rattle.sweep_words.specs.declared.words.Words.{Words}
use Rattle.sweep_command.specs.Checks.{AreTold, IsTold}
use Rattle.sweep_command.specs.Reports.{ends_found, is_given, IsFound, IsCut, IsEnd}

-- the first rows end with this one
pub ends_at : (strict : Bool) (rows : List Row) (i : ℕ) (r : Row) (b : Bool) → slice_get rows i ≡ Some r
    → ends_found strict b (take (suc i) rows) ≡ counts strict r.verdict
ends_at strict [] i r b e = absurd (cc e)
ends_at strict (x ∷ xs) zero r b e = let same : x ≡ r = cc e in ap (λ (y : Row). counts strict y.verdict) same
ends_at strict (x ∷ xs) (suc i) r b e = ends_at strict xs i r (counts strict x.verdict) e

take_own : {X : Type 0} (n : ℕ) (xs : List X) → take n xs ≡ take (length (take n xs)) xs
take_own zero xs = refl
take_own (suc n) [] = refl
take_own (suc n) (x ∷ xs) = ap (λ ys. x ∷ ys) (take_own n xs)

some_taken : {X : Type 0} (n : ℕ) (xs : List X) → 0 < length xs → 0 < length (take (suc n) xs)
some_taken n [] h = absurd (omega (arith, h))
some_taken n (x ∷ xs) h = omega arith

-- all of a batch are told, or those up to a finding
pub all_told : (strict fail_fast : Bool) (batch : List Row) → IsCut strict fail_fast batch batch false
all_told strict fail_fast batch = record { first = sym (take-length batch); some = λ h. h; found = λ e. absurd (cc e) }

pub first_told : (strict fail_fast : Bool) (batch : List Row) (n : ℕ) → fail_fast ≡ true → IsFound strict batch (Some n)
    → IsCut strict fail_fast batch (take n batch) true
first_told strict fail_fast batch n on f =
    subst (λ m. IsCut strict fail_fast batch (take m batch) true) (sym f.2) (record {
      first = take_own (suc f.0) batch;
      some = some_taken f.0 batch;
      found = λ _. ap (λ b. b && ends_found strict false (take (suc f.0) batch)) on ∙ ends_at strict batch f.0 f.1 false f.3 ∙ f.4;
    })

-- more rows behind others
pub ends_behind : (strict : Bool) (rows more : List Row) (b : Bool) → 0 < length more
    → ends_found strict b (rows ++ more) ≡ ends_found strict false more
ends_behind strict [] [] b h = absurd (omega (arith, h))
ends_behind strict [] (m ∷ ms) b h = refl
ends_behind strict (r ∷ rs) more b h = ends_behind strict rs more (counts strict r.verdict) h

take_twice : {X : Type 0} (m n : ℕ) (xs : List X) → m ≤ n → take m (take n xs) ≡ take m xs
take_twice zero n xs l = refl
take_twice (suc m) zero xs l = absurd (omega (arith, l))
take_twice (suc m) (suc n) [] l = refl
take_twice (suc m) (suc n) (x ∷ xs) l = ap (λ ys. x ∷ ys) (take_twice m n xs (omega (arith, l)))

module _ (checked : Bool) (setup : Setup) (reference : Reached) where
  -- rows of the first of these cases are those of the first of others
  pub first_rows : (n : ℕ) (left first : List Case) (batch rows : List Row) → first ≡ take n left → rows ≡ take (length rows) batch
      → AreTold checked setup reference first batch → AreTold checked setup reference (take (length rows) left) rows
  first_rows n left first batch rows is cut made =
      let many : length batch ≡ length first = sym (length-map batch (λ (r : Row). r.case)) ∙ ap length made.cases_are in
      let few : length rows ≡ min (length rows) (length batch) = ap length cut ∙ length-take (length rows) batch in
      let short : length first ≡ min n (length left) = ap length is ∙ length-take n left in
      let within : length rows ≤ n = omega (arith, many, few, short) in
      record {
        cases_are = ap (map (λ (r : Row). r.case)) cut ∙ sym (take-map (λ (r : Row). r.case) (length rows) batch) ∙ ap (take (length rows)) (made.cases_are ∙ is) ∙ take_twice (length rows) n left within;
        each = subst (λ (rs : List Row). All (IsTold checked setup reference) rs) (sym cut) (All-take (IsTold checked setup reference) (length rows) batch made.each);
      }

  -- so many are within
  pub rows_within : (n : ℕ) (left first : List Case) (batch rows : List Row) → first ≡ take n left → rows ≡ take (length rows) batch
      → AreTold checked setup reference first batch → length rows ≤ length left
  rows_within n left first batch rows is cut made =
      let many : length batch ≡ length first = sym (length-map batch (λ (r : Row). r.case)) ∙ ap length made.cases_are in
      let few : length rows ≡ min (length rows) (length batch) = ap length cut ∙ length-take (length rows) batch in
      let short : length first ≡ min n (length left) = ap length is ∙ length-take n left in
      omega (arith, many, few, short)

  -- what is told of a batch isn't empty
  pub some_told : (strict fail_fast ended : Bool) (n : ℕ) (left first : List Case) (batch rows : List Row) → first ≡ take n left → 0 < n → 0 < length left
      → AreTold checked setup reference first batch → IsCut strict fail_fast batch rows ended → 0 < length rows
  some_told strict fail_fast ended n left first batch rows is size some made cut =
      let many : length batch ≡ length first = sym (length-map batch (λ (r : Row). r.case)) ∙ ap length made.cases_are in
      let short : length first ≡ min n (length left) = ap length is ∙ length-take n left in
      cut.some (omega (arith, many, short, size, some))

  -- rows of some cases, and behind them those of others
  pub told_are_joined : (cases more : List Case) (rows others : List Row) → AreTold checked setup reference cases rows
      → AreTold checked setup reference more others → AreTold checked setup reference (cases ++ more) (rows ++ others)
  told_are_joined cases more rows others h g = record {
    cases_are = map-append (λ (r : Row). r.case) rows others ∙ ap₂ ◌++◌ h.cases_are g.cases_are;
    each = All-append (IsTold checked setup reference) rows others h.each g.each;
  }

-- the rows before it change nothing of how the sweep ends
pub ended_behind : (strict fail_fast : Bool) (before rows : List Row) → 0 < length rows
    → (fail_fast && ends_found strict false rows) ≡ true → (fail_fast && ends_found strict false (before ++ rows)) ≡ true
ended_behind strict fail_fast before rows some e = ap (λ b. fail_fast && b) (ends_behind strict before rows false some) ∙ e

-- the sweep ends with a finding, or late, or where no case is left
pub sweep_ends : (strict : Bool) (words : Words) (ended late : Bool) (rows : List Row) (rest : List Case)
    → (ended ≡ true → (words.fail_fast && ends_found strict false rows) ≡ true) → (late ≡ true → is_given words.seconds ≡ true)
    → (ended ≡ false → late ≡ false → rest ≡ []) → IsEnd strict words rows rest
sweep_ends strict words true late rows rest f t g = inl (f refl)
sweep_ends strict words false true rows rest f t g = inr (inl (t refl))
sweep_ends strict words false false rows rest f t g = inr (inr (g refl refl))

-- fewer cases are left
pub fewer_left : (m : ℕ) (left rest : List Case) → take m left ++ rest ≡ left → 0 < m → m ≤ length left → length rest < length left
fewer_left m left rest is some within =
    let all : length (take m left ++ rest) ≡ length left = ap length is in
    let both = length-append (take m left) rest in
    let first = length-take m left in
    omega (arith, all, both, first, some, within)
