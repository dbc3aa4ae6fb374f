use Rattle.sweep_command.proofs.Numbering.{loses_none}
use Rattle.sweep_command.proofs.laws.loses_none.Goals as goal

pub returns : goal.returns
returns c = loses_none
