use Rattle.std.proofs.Common.{◌≡◌, ◌++◌, ap, ◌∙◌, map}
use Rattle.std.specs.Iterator.Adapters.{zip_first, zip_second}
use Rattle.std.specs.Slice.Iter.{iter_rest}
use Rattle.front_end.specs.Expressions.{placed_text, spelled}
use Rattle.front_end.proofs.Placed.{at_end, ended, one_on, to_come}
use Rattle.front_end.proofs.expressions.add_all.Goals as goal

pub loop-one-init : goal.loop-one-init
loop-one-init c =
    let f = spelled c.args.start.now in
    let before = map placed_text c.args.placed.now.items in
    let it = c.into_iter-one-iterator.ensures.into_iter_gives in
    let first = ap (λ i. iter_rest (zip_first i)) it ∙ ap iter_rest c.zip-one-items.ensures.first ∙ c.iter.ensures.rest in
    let second = ap (λ i. iter_rest (zip_second i)) it ∙ c.zip-one-items.ensures.second.0 in
    ap (λ l. before ++ to_come f l (iter_rest (zip_second c.into_iter-one-iterator.result))) first
    ∙ ap (λ l. before ++ to_come f c.args.values.now l) second

pub loop-one-preserved : goal.loop-one-preserved
loop-one-preserved c =
    one_on (spelled c.args.start.now) _ _ _ _ _ _ _ c.in-Some.one.0.now c.in-Some.one.1.now
    c.in-Some.ensures.steps.0 c.in-Some.ensures.steps.1 c.loop-one.invariant c.in_ok-add_one.ensures

pub returns : goal.returns
returns c = at_end (spelled c.args.start.now) _ _ _ _ (ended c.in-None.ensures.steps) c.loop-one.invariant
