use Rattle.lx_kernel.proofs.Booting.{boots_run_alike, logs_are_apart}
use Rattle.lx_kernel.proofs.laws.boots_are_first_runs.Goals as goal

pub returns-clause-runs : goal.returns-clause-runs
returns-clause-runs c = boots_run_alike c.kernels_run_alike.ensures.begin c.kernels_run_alike.ensures.run

pub returns-clause-unkept : goal.returns-clause-unkept
returns-clause-unkept c = logs_are_apart
