use Rattle.lx_proc.proofs.PairSets.{has_empty}
use Rattle.lx_proc.proofs.pairs.Pairs.new.Goals as goal

pub returns : goal.returns
returns c p n = rw c.new.ensures.empty (has_empty p n)
