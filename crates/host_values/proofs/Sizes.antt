-- How many bytes a spelling takes.
use Rattle.std.proofs.Common.{◌≡◌, ℕ, ◌+◌, ◌*◌, ◌≤◌, ◌<◌, List, [], ◌∷◌, length, get_or, take, Some, None, refl, sym, subst, arith, length-append}
use Rattle.std.specs.List.{flat_map, sum_by}
use Rattle.std.proofs.Math.Nat.{lt_of_not-le}
use Rattle.std.proofs.lemmas.List.{take_all}
use Rattle.std.proofs.lemmas.List.Concat.{length-flat_map}
use Rattle.std.proofs.lemmas.List.Folds.{length-flat_map-take}
use Rattle.byteorder.specs.Numbers.{length-bytes_high_first, length-bytes_low_first}
use Rattle.byteorder.specs.Endian.{little_bytes}
use Rattle.host_values.specs.Sizes.{Spends}
use Rattle.host_values.specs.Spelling.{word, text, items, registers}

pub text_size : (t : List ℕ) → length (text t) ≡ 4 + length t
unfolding text
text_size t = omega (arith, length-append (word (length t)) t, length-bytes_high_first 4 (length t))

pub items_size : {X : Type 0} (spell : X → List ℕ) (xs : List X) → length (items spell xs) ≡ 4 + sum_by (λ x. length (spell x)) xs
unfolding items
items_size spell xs = omega (arith, length-append (word (length xs)) (flat_map spell xs), length-bytes_high_first 4 (length xs), length-flat_map spell xs)

pub registers_size : (rs : List ℕ) → length (registers rs) ≡ 8 * length rs
registers_size [] = refl
registers_size (r ∷ rs) = omega (arith, length-append (little_bytes 8 r) (registers rs), length-bytes_low_first 0 8 r, registers_size rs)

-- a loop over a list, so many items on: what is left behind the count and these items
pub list_ends : {X : Type 0} (spell : X → List ℕ) (xs : List X) (i budget left : ℕ) → left + (4 + sum_by (λ x. length (spell x)) (take i xs)) ≡ budget → length xs ≤ i → Spends (Some left) budget (length (items spell xs))
list_ends {X = X} spell xs i budget left so_far past =
    let all : take i xs ≡ xs = take_all i xs past in
    let sum : left + (4 + sum_by (λ x. length (spell x)) xs) ≡ budget = subst (λ (ys : List X). left + (4 + sum_by (λ x. length (spell x)) ys) ≡ budget) all so_far in
    (omega (arith, sum, items_size spell xs), omega (arith, sum, items_size spell xs))

pub list_passes : {X : Type 0} (spell : X → List ℕ) (xs : List X) (i budget left : ℕ) (x : X) → left + (4 + sum_by (λ x. length (spell x)) (take i xs)) ≡ budget → i < length xs → x ≡ get_or xs i x → (length (spell x) ≤ left → ⊥) → Spends None budget (length (items spell xs))
list_passes {X = X} spell xs i budget left x so_far within is long whole =
    let more : length (flat_map spell (take i xs)) + length (spell x) ≤ length (flat_map spell xs) = subst (λ (y : X). length (flat_map spell (take i xs)) + length (spell y) ≤ length (flat_map spell xs)) (sym is) (length-flat_map-take spell xs i x within) in
    omega (arith, so_far, lt_of_not-le long, whole, more, items_size spell xs, length-flat_map spell xs, length-flat_map spell (take i xs))

-- what the sizes of a message's parts come to
pub ruleset sizes = (length-append, length-bytes_high_first, text_size, items_size, registers_size)
