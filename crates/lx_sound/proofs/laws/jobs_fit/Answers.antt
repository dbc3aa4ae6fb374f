use Rattle.lx_sound.proofs.Stops.{turns_keep_jobs, kernels_have_jobs}
use Rattle.lx_sound.proofs.laws.jobs_fit.Goals as goal

pub returns-clause-turn : goal.returns-clause-turn
returns-clause-turn c = turns_keep_jobs

pub returns-clause-kernels : goal.returns-clause-kernels
returns-clause-kernels c = kernels_have_jobs
