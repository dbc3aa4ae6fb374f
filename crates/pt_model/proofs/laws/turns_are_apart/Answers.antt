use Rattle.pt_model.proofs.Apart.{kernel_turns_apart, host_turns_apart}
use Rattle.pt_model.proofs.laws.turns_are_apart.Goals as goal

pub returns-clause-kernel : goal.returns-clause-kernel
returns-clause-kernel g c = λ m. kernel_turns_apart m

pub returns-clause-host : goal.returns-clause-host
returns-clause-host g c = λ m. host_turns_apart m
