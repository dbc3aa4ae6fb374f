use Rattle.std.proofs.Common.{arith}
use Rattle.rv_mem.proofs.Gaps.{class_small, class_half}
use Rattle.rv_mem.proofs.beginnings.class.Goals as goal

pub loop-rest-preserved : goal.loop-rest-preserved
loop-rest-preserved c = record {
  sum = omega (arith, class_half c.loop-rest.rest c.loop-rest-test.true, c.loop-rest.invariant.sum);
  fits = omega (arith, c.loop-rest-test.true, c.loop-rest.invariant.fits);
}

pub returns : goal.returns
returns c = omega (arith, class_small c.loop-rest.rest c.loop-rest-test.false, c.loop-rest.invariant.sum)
