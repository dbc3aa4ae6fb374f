use Rattle.std.proofs.Common.{arith}
use Rattle.rv_mem.proofs.Gaps.{class_rises}
use Rattle.rv_mem.proofs.beginnings.Beginnings.note.Goals as goal

pub returns-then-gap-eq0-clause-marked : goal.returns-then-gap-eq0-clause-marked
returns-then-gap-eq0-clause-marked c = λ pages g. absurd (omega (arith, (c.gap_before-gap.ensures pages g).0, c.if-gap-eq0.true))

pub returns-clause-marked : goal.returns-clause-marked
returns-clause-marked c = λ pages g known.
    let fits = class_rises pages c.gap_before-gap.result (c.gap_before-gap.ensures pages g).1 in
    (c.class.result, omega (arith, fits, c.class.ensures), c.mark.ensures.marked known)

pub returns-clause-kept : goal.returns-clause-kept
returns-clause-kept c = λ n pages marks known.
    let mark = marks (c.mark.ensures.known known) in
    (mark.0, mark.1, c.mark.ensures.kept mark.0 n mark.2)
