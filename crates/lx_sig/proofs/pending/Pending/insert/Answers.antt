use Rattle.std.proofs.Common.{sym, arith}
use Rattle.lx_sig.proofs.NonePending.{one_pending}
use Rattle.lx_sig.proofs.pending.Pending.insert.Goals as goal

pub invariant_of-self : goal.invariant_of-self
invariant_of-self c = sym (one_pending c.self.inside.causes c.from.result c.args.cause (omega (arith, c.from.ensures, c.requires, c.self.ranges)))
