use Rattle.std.proofs.Common.{refl, arith}
use Rattle.rv_asm.proofs.LineSteps.{place_next, places_end}
use Rattle.rv_asm.proofs.listing.place.Goals as goal

pub loop-i-preserved : goal.loop-i-preserved
loop-i-preserved c =
    let e = place_next c.args.lines.now c.loop-i.i _ c.loop-i.at _ _ _ _ c.loop-i-test.true refl c.loop-i.invariant.so_far in
    record { so_far = rw (c.in-Ok.ensures.labels, c.in-Ok.ensures.next) e; small = c.in-Ok.ensures.small }

pub returns-clause-ok : goal.returns-clause-ok
returns-clause-ok c = places_end c.args.lines.now c.loop-i.i c.loop-i.at _ _ (omega arith) c.loop-i.invariant.so_far
