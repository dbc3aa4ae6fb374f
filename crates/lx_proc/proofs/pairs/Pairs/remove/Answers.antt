use Rattle.std.proofs.Common.{◌∙◌, sym, ap, subst, arith}
use Rattle.std.specs.Prelude.{false}
use Rattle.std.specs.FinMap as maps
use Rattle.containers.proofs.Maps.{made_by_remove}
use Rattle.lx_proc.specs.Pairs.{PairSet, Sets}
use Rattle.lx_proc.proofs.PairSets.{sets_remove}
use Rattle.lx_proc.proofs.pairs.Pairs.remove.Goals as goal

pub returns : goal.returns
returns c =
    let a = c.args.first in
    let b = c.args.second in
    let is = made_by_remove _ _ c.key.result c.remove.ensures.updates.0 ∙ ap (λ (m : PairSet). maps.remove m c.key.result) c.self.view_is ∙ ap (λ k. maps.remove c.args.self.now k) c.key.ensures in
    subst (λ (m : PairSet). Sets a b false c.args.self.now m) (sym is) (sets_remove c.args.self.now a b (omega (arith, c.ranges)))
