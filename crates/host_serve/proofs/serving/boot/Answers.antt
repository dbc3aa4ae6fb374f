use Rattle.std.proofs.Common.{refl}
use Rattle.host_serve.proofs.serving.boot.Goals as goal

pub returns-in-Wait-clause-responds : goal.returns-in-Wait-clause-responds
returns-in-Wait-clause-responds g c = rw (c.requires, c.in-Wait.is) refl

pub returns-in-To-clause-responds : goal.returns-in-To-clause-responds
returns-in-To-clause-responds g c = rw (c.requires, c.in-To.is) refl
