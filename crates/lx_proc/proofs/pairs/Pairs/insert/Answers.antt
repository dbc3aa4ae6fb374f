use Rattle.std.proofs.Common.{◌∙◌, sym, ap, subst, arith}
use Rattle.std.specs.Prelude.{true}
use Rattle.std.specs.FinMap as maps
use Rattle.containers.proofs.Maps.{made_by_insert}
use Rattle.lx_proc.specs.Pairs.{PairSet, Sets}
use Rattle.lx_proc.proofs.PairSets.{sets_insert}
use Rattle.lx_proc.proofs.pairs.Pairs.insert.Goals as goal

pub returns-clause-ok : goal.returns-clause-ok
returns-clause-ok c =
    let a = c.args.first in
    let b = c.args.second in
    let is = made_by_insert _ _ c.key.result tt c.in_ok-insert.ensures.updates.0 ∙ ap (λ (m : PairSet). maps.insert m c.key.result tt) c.self.view_is ∙ ap (λ k. maps.insert c.args.self.now k tt) c.key.ensures in
    subst (λ (m : PairSet). Sets a b true c.args.self.now m) (sym is) (sets_insert c.args.self.now a b tt (omega (arith, c.ranges)))
