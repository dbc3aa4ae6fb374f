use Rattle.rv_isa.proofs.Found.{instruction_spelled}
use Rattle.rv_isa.proofs.decoding.instruction_is_spelled.Goals as goal

pub returns : goal.returns
returns c = instruction_spelled
