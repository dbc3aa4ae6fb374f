use Rattle.lx_sound.proofs.Limits.{limits_stay, kernels_keep_limits}
use Rattle.lx_sound.proofs.laws.limits_stay.Goals as goal

pub returns-clause-turn : goal.returns-clause-turn
returns-clause-turn c = limits_stay

pub returns-clause-kernels : goal.returns-clause-kernels
returns-clause-kernels c = kernels_keep_limits
