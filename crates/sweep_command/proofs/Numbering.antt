-- Kinds by numbers: by novelty no case is lost.
use Rattle.std.proofs.Common.{◌≡◌, ◌<◌, ◌≤◌, ◌+◌, ◌==◌, ◌++◌, ℕ, suc, Bool, true, false, cond, List, [], ◌∷◌, length, IsPermutation, refl, ap, subst, ◌∙◌, arith, length-append}
use Rattle.std.specs.List.{range_with_len, AllByRecursion}
use Rattle.std.proofs.lemmas.Bool.{eqb-false}
use Rattle.std.proofs.lemmas.List.Elements.{All-from_recursion}
use Rattle.sweep_rows.specs.declared.wanted.Case.{Case}
use Rattle.turn_orders.specs.Novelty.{novel}
use Rattle.turn_orders.proofs.Each.{each_once}
use Rattle.turn_orders.proofs.Spreads.{all_placed}
use Rattle.sweep_command.specs.Choosing.{is_kind, kinds_of, place_in, met_with, met_after, numbers_of, LosesNone}
use Rattle.sweep_command.specs.declared.choosing.Kind.{Kind}

place_small : (ms : List Kind) (k : Kind) → place_in ms k ≤ length ms
place_small [] k = omega arith
place_small (m ∷ ms) k = by_test (is_kind m k) (place_small ms k)
  where
    by_test : (t : Bool) → place_in ms k ≤ length ms → cond t 0 (suc (place_in ms k)) ≤ suc (length ms)
    by_test true le = omega arith
    by_test false le = omega (arith, le)

-- a kind that is met has its place
place_met : (ms : List Kind) (k : Kind) → place_in ms k < length (met_with ms k)
place_met ms k = by_test (place_in ms k == length ms) refl (place_small ms k)
  where
    by_test : (t : Bool) → (place_in ms k == length ms) ≡ t → place_in ms k ≤ length ms
        → place_in ms k < length (cond t (ms ++ k ∷ []) ms)
    by_test true e le = let long = length-append ms (k ∷ []) in omega (arith, le, long)
    by_test false e le = let apart = eqb-false (place_in ms k) (length ms) e in omega (arith, le, apart)

kept : (ms : List Kind) (k : Kind) → length ms ≤ length (met_with ms k)
kept ms k = by_test (place_in ms k == length ms)
  where
    by_test : (t : Bool) → length ms ≤ length (cond t (ms ++ k ∷ []) ms)
    by_test true = let long = length-append ms (k ∷ []) in omega (arith, long)
    by_test false = omega arith

all_kept : (ms ks : List Kind) → length ms ≤ length (met_after ms ks)
all_kept ms [] = omega arith
all_kept ms (k ∷ ks) =
    let first = kept ms k in
    let others = all_kept (met_with ms k) ks in
    omega (arith, first, others)

numbers_below : (ms ks : List Kind) → AllByRecursion (λ n. n < length (met_after ms ks)) (numbers_of ms ks)
numbers_below ms [] = tt
numbers_below ms (k ∷ ks) = (
  let own = place_met ms k in
      let others = all_kept (met_with ms k) ks in
      omega (arith, own, others),
  numbers_below (met_with ms k) ks,
)

numbers_long : (ms ks : List Kind) → length (numbers_of ms ks) ≡ length ks
numbers_long ms [] = refl
numbers_long ms (k ∷ ks) = ap suc (numbers_long (met_with ms k) ks)

kinds_long : (cases : List Case) (sites : List ℕ) → length sites ≡ length cases → length (kinds_of cases sites) ≡ length cases
kinds_long [] sites e = refl
kinds_long (c ∷ cs) [] e = absurd (omega (arith, e))
kinds_long (c ∷ cs) (s ∷ ss) e = ap suc (kinds_long cs ss (omega (arith, e)))

pub loses_none : LosesNone
loses_none cases sites long =
    let kinds = kinds_of cases sites in
    let numbers = numbers_of [] kinds in
    let count = length (met_after [] kinds) in
    let many : length numbers ≡ length cases = numbers_long [] kinds ∙ kinds_long cases sites long in
    let places : IsPermutation (range_with_len 0 (length numbers)) (novel numbers count) =
    each_once numbers count (All-from_recursion (λ n. n < count) numbers (numbers_below [] kinds)) in
    all_placed cases (novel numbers count) (subst (λ n. IsPermutation (range_with_len 0 n) (novel numbers count)) many places)
