use Rattle.std.proofs.Common.{◌-◌, ◌*◌}
use Rattle.sweep_threads.proofs.splitting.+split.Given as goal

abbrev pub decreases-run_split : goal.decreases-run_split
decreases-run_split g l = 2 * l.jobs

abbrev pub decreases-join+arg3 : goal.decreases-join+arg3
decreases-join+arg3 g l = 2 * l.jobs - 1
