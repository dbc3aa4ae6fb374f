use Rattle.pt_model.proofs.Composition.{replies_tell_all, boot_comes_first}
use Rattle.pt_model.proofs.laws.replies_tell_all.Goals as goal

pub returns-clause-all : goal.returns-clause-all
returns-clause-all g c = λ m. replies_tell_all m

pub returns-clause-boot : goal.returns-clause-boot
returns-clause-boot g c = boot_comes_first
