use Rattle.std.proofs.Common.{◌-◌}
use Rattle.lx_open.proofs.sharing.«+inherit_from».Given as goal

abbrev pub decreases-inherit_from : goal.decreases-inherit_from
decreases-inherit_from l = 256 - l.from
