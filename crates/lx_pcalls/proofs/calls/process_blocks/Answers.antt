use Rattle.lx_pcalls.proofs.Blocking as calls
use Rattle.lx_pcalls.proofs.calls.process_blocks.Goals as goal

pub returns : goal.returns
returns c = calls.process_blocks _ _ _ _ _
