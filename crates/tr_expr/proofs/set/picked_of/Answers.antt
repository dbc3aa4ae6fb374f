use Rattle.std.proofs.Common.{map, sym, subst, lit<}
use Rattle.std.proofs.lemmas.Iterator.Consumers.{YieldsList-end}
use Rattle.std.proofs.lemmas.Iterator.Splits.{YieldsList-from_str_split}
use Rattle.tr_expr.specs.Picks.{IsPicked}
use Rattle.tr_expr.proofs.Readings.{picked_push}
use Rattle.tr_expr.proofs.Runs.{map_push}
use Rattle.tr_expr.proofs.set.picked_of.Goals as goal

pub loop-item-preserved : goal.loop-item-preserved
loop-item-preserved c =
    let before = map (λ x. x.now) c.loop-item.yielded in
    let old = c.loop-item.picked in
    let new = c.take.new.self in
    subst (λ texts. IsPicked texts new.fault new.every new.numbers.items) (sym (map_push (λ x. x.now) c.loop-item.yielded c.in-Some.item))
    (picked_push before c.in-Some.item.now c.in_ok-picks.picks old.fault new.fault old.every new.every old.numbers.items new.numbers.items
    c.loop-item.invariant c.in_ok-picks.ensures c.in_ok-take.ensures.found c.in_ok-take.ensures.picks)

pub returns : goal.returns
returns c =
    let all = YieldsList-end (YieldsList-from_str_split 44 c.args.list.now (lit< tt) (cc) (cc) (cc)) c.loop-item.yielded _ c.loop-item.yielded_by _ _ c.in-None.is c.next.ensures.steps in
    subst (λ texts. IsPicked texts c.loop-item.picked.fault c.loop-item.picked.every c.loop-item.picked.numbers.items) all.0 c.loop-item.invariant
