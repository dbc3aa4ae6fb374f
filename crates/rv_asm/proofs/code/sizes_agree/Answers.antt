use Rattle.rv_asm.proofs.Sizes.{sizes_agree}
use Rattle.rv_asm.proofs.code.sizes_agree.Goals as goal

pub returns : goal.returns
returns c = sizes_agree
