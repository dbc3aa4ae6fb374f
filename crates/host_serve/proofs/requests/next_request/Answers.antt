use Rattle.host_serve.proofs.Nexts.{next_failed}
use Rattle.host_serve.proofs.requests.next_request.Goals as goal

pub returns-in-Err-clause-next : goal.returns-in-Err-clause-next
returns-in-Err-clause-next g c = rw c.fault_of.ensures (next_failed c.in-Err.fault c.args.number c.requires.fresh c.in-Err.ensures.received)
