-- Rounds and blocks, one after the other.
use Rattle.std.proofs.Common.{◌≡◌, ◌<◌, ◌+◌, ◌-◌, ◌++◌, ℕ, zero, suc, List, [], ◌∷◌, map, refl, ap, ap₂, ◌∙◌}
use Rattle.std.proofs.Common.{append_assoc, arith}
use Rattle.turn_orders.specs.Novelty.{block_of, blocks_from, round, rounds_from}
use Rattle.turn_orders.specs.declared.novelty.Block.{Block}

-- a round more, and then the others
pub one_round : (places : List ℕ) (blocks : List (List ℕ)) (k n : ℕ) → 0 < n
    → (places ++ round blocks k) ++ rounds_from blocks (k + 1) (n - 1) ≡ places ++ rounds_from blocks k n
one_round places blocks k zero some = absurd (omega (arith, some))
one_round places blocks k (suc n) some =
    let less : suc n - 1 ≡ n = omega arith in
    let next : k + 1 ≡ suc k = omega arith in
    ap₂ (λ i m. (places ++ round blocks k) ++ rounds_from blocks i m) next less
    ∙ append_assoc places (round blocks k) (rounds_from blocks (suc k) n)

-- a block more, and then the others
pub one_block : (done : List (List ℕ)) (kinds : List ℕ) (kind n : ℕ) → 0 < n
    → (done ++ block_of kinds kind ∷ []) ++ blocks_from kinds (kind + 1) (n - 1) ≡ done ++ blocks_from kinds kind n
one_block done kinds kind zero some = absurd (omega (arith, some))
one_block done kinds kind (suc n) some =
    let less : suc n - 1 ≡ n = omega arith in
    let next : kind + 1 ≡ suc kind = omega arith in
    ap₂ (λ i m. (done ++ block_of kinds kind ∷ []) ++ blocks_from kinds i m) next less
    ∙ append_assoc done (block_of kinds kind ∷ []) (blocks_from kinds (suc kind) n)

-- the places of blocks with one more
abbrev pub places_in : List Block → List (List ℕ)
places_in blocks = map (λ (b : Block). b.places.items) blocks

pub with_block : (blocks : List Block) (b : Block)
    → places_in (blocks ++ b ∷ []) ≡ places_in blocks ++ b.places.items ∷ []
with_block [] b = refl
with_block (x ∷ xs) b = ap (λ rest. x.places.items ∷ rest) (with_block xs b)
