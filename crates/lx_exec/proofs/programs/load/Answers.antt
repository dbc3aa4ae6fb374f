use Rattle.std.proofs.Common.{length}
use Rattle.lx_exec.proofs.Roomy.{load_short}
use Rattle.lx_exec.proofs.programs.load.Goals as goal

pub short-requires : goal.short-requires
short-requires c = load_short c.args.space.now c.args.address (length c.args.bytes.now) c.in-Err.fault c.requires c.in-Err.ensures.fault
