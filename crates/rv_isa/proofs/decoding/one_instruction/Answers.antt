use Rattle.rv_isa.proofs.Reading.{spelled_reads}
use Rattle.rv_isa.proofs.Unique.{same_inst}
use Rattle.rv_isa.proofs.decoding.one_instruction.Goals as goal

pub returns : goal.returns
returns c = λ w i j h g. same_inst w i j (spelled_reads i w h) (spelled_reads j w g)
