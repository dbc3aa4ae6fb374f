use Rattle.pt_kernel.proofs.EagerTurns.{eager_plain}
use Rattle.pt_kernel.proofs.eager.eager_turns_are_plain.Goals as goal

pub returns : goal.returns
returns c = eager_plain c.linux_is_a_machine.ensures c.linux_is_told.ensures
