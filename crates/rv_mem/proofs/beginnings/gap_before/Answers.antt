use Rattle.std.proofs.Common.{arith}
use Rattle.rv_mem.proofs.Marked.{no_gap, absent_if, gap_above_page}
use Rattle.rv_mem.proofs.beginnings.gap_before.Goals as goal

pub returns-then-is_none : goal.returns-then-is_none
returns-then-is_none c = λ pages g. absurd (no_gap c.args.table.now.pages.items c.args.number pages c.place.result (absent_if c.place.result c.is_none.result c.is_none.ensures c.if-is_none.true) c.place.ensures.absent g)

pub returns-in-Some : goal.returns-in-Some
returns-in-Some c = λ pages g.
    let fits = gap_above_page c.args.table.now.pages.items c.args.number c.in-Some.below pages c.requires c.in-Some.ensures.there c.in-Some.ensures.below g in
    (omega (arith, fits, g.some), fits)
