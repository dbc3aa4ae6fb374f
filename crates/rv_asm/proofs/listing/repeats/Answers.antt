use Rattle.std.proofs.Common.{refl, sym, arith}
use Rattle.rv_asm.specs.Codes.{place_of}
use Rattle.rv_asm.proofs.Repeats.{found_twice, found_once, seen_before}
use Rattle.rv_asm.proofs.listing.repeats.Goals as goal

pub returns-then-is_some : goal.returns-then-is_some
returns-then-is_some c =
    sym (found_twice place_of c.args.names.now c.loop-at.at _ c.loop-at.seen _ c.loop-at-test.true c.loop-at.invariant.within c.loop-at.invariant.seen c.find.ensures (sym c.if-is_some.ensures))

pub loop-at-preserved : goal.loop-at-preserved
loop-at-preserved c = record {
  within = omega (arith, c.loop-at.invariant.within);
  seen = seen_before c.args.names.now c.loop-at.at _ c.loop-at.seen _ _ c.loop-at-test.true c.loop-at.invariant.within refl c.in_ok-push.ensures c.loop-at.invariant.seen;
  once = found_once place_of c.args.names.now c.loop-at.at _ c.loop-at.seen _ c.loop-at-test.true c.loop-at.invariant.within c.loop-at.invariant.seen c.find.ensures (sym c.if-is_some.ensures) c.loop-at.invariant.once;
}
