use Rattle.lx_turn.proofs.LinuxLaws.{linux_laws}
use Rattle.lx_turn.proofs.laws.linux_is_a_machine.Goals as goal

pub returns : goal.returns
returns c = linux_laws
