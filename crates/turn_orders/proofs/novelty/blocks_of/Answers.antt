use Rattle.std.proofs.Common.{◌+◌, ◌-◌, ◌++◌, List, [], ◌∷◌, ℕ, ap, ◌∙◌, arith}
use Rattle.turn_orders.specs.Novelty.{blocks_from}
use Rattle.turn_orders.proofs.Rounds.{one_block, places_in, with_block}
use Rattle.turn_orders.specs.declared.novelty.Block.{Block}
use Rattle.turn_orders.proofs.novelty.blocks_of.Goals as goal

pub loop-left-preserved : goal.loop-left-preserved
loop-left-preserved c =
    let kinds = c.args.kinds.now in
    let before = c.loop-left.blocks.items in
    let block = c.in_ok-block_of.field-0 in
    let kind = c.loop-left.kind in
    let n = c.loop-left.left in
    let more = blocks_from kinds (kind + 1) (n - 1) in (
      ap (λ (bs : List Block). places_in bs ++ more) c.in_ok-push.ensures.items
          ∙ ap (λ (bs : List (List ℕ)). bs ++ more) (with_block before block)
          ∙ ap (λ (b : List ℕ). (places_in before ++ b ∷ []) ++ more) c.in_ok-block_of.ensures
          ∙ one_block (places_in before) kinds kind n c.loop-left-test.true ∙ c.loop-left.invariant.0,
      omega (arith, c.loop-left.invariant.1, c.loop-left-test.true),
    )
