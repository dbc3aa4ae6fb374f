use Rattle.rv_asm.proofs.LaidOut.{listing_is_laid_out}
use Rattle.rv_asm.proofs.assembling.listings_are_laid_out.Goals as goal

pub returns : goal.returns
returns c = listing_is_laid_out
