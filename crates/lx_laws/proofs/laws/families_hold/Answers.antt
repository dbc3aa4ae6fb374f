use Rattle.lx_laws.proofs.Families.{turns_keep_families, kernels_have_families}
use Rattle.lx_laws.proofs.laws.families_hold.Goals as goal

pub returns-clause-turn : goal.returns-clause-turn
returns-clause-turn c = turns_keep_families

pub returns-clause-kernels : goal.returns-clause-kernels
returns-clause-kernels c = kernels_have_families
