use Rattle.rv_syntax.specs.Names.{number_of, register_names}
use Rattle.rv_syntax.proofs.names.find_number.Goals as goal

pub returns : goal.returns
unfolding number_of register_names
returns c = c.number_in.ensures
