use Rattle.std.proofs.Common.{◌+◌, ◌-◌, ◌++◌, List, ℕ, map, ap, ◌∙◌, arith}
use Rattle.turn_orders.specs.Novelty.{rounds_from}
use Rattle.turn_orders.proofs.Rounds.{one_round}
use Rattle.turn_orders.specs.declared.novelty.Block.{Block}
use Rattle.turn_orders.proofs.novelty.rounds.Goals as goal

pub loop-left-preserved : goal.loop-left-preserved
loop-left-preserved c =
    let blocks = map (λ (b : Block). b.places.items) c.args.blocks.now in
    let k = c.loop-left.number in
    let n = c.loop-left.left in (
      ap (λ (ps : List ℕ). ps ++ rounds_from blocks (k + 1) (n - 1)) c.in_ok-add_round.ensures
          ∙ one_round c.loop-left.places.items blocks k n c.loop-left-test.true ∙ c.loop-left.invariant.0,
      omega (arith, c.loop-left.invariant.1, c.loop-left-test.true),
    )
