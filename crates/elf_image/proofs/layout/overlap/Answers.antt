use Rattle.std.proofs.Common.{arith}
use Rattle.elf_image.proofs.Pages.{any_share_next}
use Rattle.elf_image.proofs.layout.overlap.Goals as goal

pub loop-i-preserved : goal.loop-i-preserved
loop-i-preserved c = any_share_next c.args.extents.now c.loop-i.i _ _ _ c.loop-i-test.true (omega arith) (c.if-shares_with.ensures) c.loop-i.invariant
