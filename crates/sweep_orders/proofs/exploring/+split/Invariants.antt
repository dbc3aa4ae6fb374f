use Rattle.std.proofs.Common.{◌-◌, ◌*◌}
use Rattle.sweep_orders.proofs.exploring.+split.Given as goal

abbrev pub decreases-try_split : goal.decreases-try_split
decreases-try_split g l = 2 * l.jobs

abbrev pub decreases-join+arg3 : goal.decreases-join+arg3
decreases-join+arg3 g l = 2 * l.jobs - 1
