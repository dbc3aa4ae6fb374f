use Rattle.std.proofs.Common.{◌∙◌, sym, arith}
use Rattle.host_serve.proofs.Ready.{behind_boot}
use Rattle.host_serve.proofs.serving.respond.Goals as goal

pub returns-in-Waiting-clause-due : goal.returns-in-Waiting-clause-due
returns-in-Waiting-clause-due g c = rw c.in-Waiting.is (behind_boot g.S.Session.ready g.S.Session.given _ _ c.boot.ensures.due)

pub returns-in-Refused-clause-responds : goal.returns-in-Refused-clause-responds
returns-in-Refused-clause-responds g c = rw c.in-Refused.is tt
