-- Which of many things of some kinds come first, where not all of them may be tried.
use Rattle.std.specs.Prelude.{ℕ, zero, suc, ◌==◌, ◌<◌, cond, List, [], ◌∷◌, ◌++◌, length, All, IsPermutation}
use Rattle.std.specs.List.{flat_map, range_with_len, slice_get}
use Rattle.std.specs.Option.{option_to_list}
use Rattle.turn_orders.specs.Places.{spread}

-- the places of a kind, of which the first is here
abbrev pub places_from : ℕ → ℕ → List ℕ → List ℕ
places_from here kind [] = []
places_from here kind (k ∷ ks) = cond (k == kind) (here ∷ []) [] ++ places_from (suc here) kind ks

abbrev pub element : List ℕ → ℕ → List ℕ
element xs i = option_to_list (slice_get xs i)

-- the first and the last of these, and then the middles of gaps
abbrev pub spread_over : List ℕ → List ℕ
spread_over xs = flat_map (element xs) (spread (length xs))

abbrev pub block_of : List ℕ → ℕ → List ℕ
block_of kinds kind = spread_over (places_from 0 kind kinds)

-- so many kinds, from this one on
abbrev pub blocks_from : List ℕ → ℕ → ℕ → List (List ℕ)
blocks_from kinds kind zero = []
blocks_from kinds kind (suc n) = block_of kinds kind ∷ blocks_from kinds (suc kind) n

-- one of each block
abbrev pub round : List (List ℕ) → ℕ → List ℕ
round blocks k = flat_map (λ b. element b k) blocks

-- so many rounds, from this one on
abbrev pub rounds_from : List (List ℕ) → ℕ → ℕ → List ℕ
rounds_from blocks k zero = []
rounds_from blocks k (suc n) = round blocks k ++ rounds_from blocks (suc k) n

-- all places: of each of so many kinds the first, then of each the last, and then the middles of gaps
unfoldable pub novel : List ℕ → ℕ → List ℕ
novel kinds count = rounds_from (blocks_from kinds 0 count) 0 (length kinds)

-- The law: where each of these is one of so many kinds, each place comes once
abbrev pub EachOnce : Type 0
EachOnce =
    (kinds : List ℕ) (count : ℕ) → All (λ k. k < count) kinds
    → IsPermutation (range_with_len 0 (length kinds)) (novel kinds count)
