use Rattle.rv_mem.proofs.Gaps.{none_in_empty}
use Rattle.rv_mem.proofs.Marked.{greatest_mark}
use Rattle.rv_mem.proofs.beginnings.last_up_to.Goals as goal

pub returns-in-Some-clause-greatest : goal.returns-in-Some-clause-greatest
returns-in-Some-clause-greatest c = λ n l g there.
    greatest_mark c.args.set.now c.args.number c.in-Some.last.now c.range.result _ (c.range.ensures.in_range tt) c.in-Some.ensures.steps n l g there

pub returns-then-is_empty-clause-greatest : goal.returns-then-is_empty-clause-greatest
returns-then-is_empty-clause-greatest c = λ n l g there. none_in_empty c.args.set.now n (c.is_empty.ensures.0 c.if-is_empty.true) there
