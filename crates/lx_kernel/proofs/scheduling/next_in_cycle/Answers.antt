use Rattle.std.proofs.Common.{inl, inr, refl}
use Rattle.lx_kernel.proofs.scheduling.next_in_cycle.Goals as goal

pub returns-in-Some : goal.returns-in-Some
returns-in-Some g c = inl (refl, c.in-Some.ensures)

pub returns-in-None : goal.returns-in-None
returns-in-None g c = inr (c.in-None.ensures, c.first_able.ensures)
