use Rattle.trace_run.proofs.InProcess.{local_links_serve}
use Rattle.trace_run.proofs.laws.local_links_serve.Goals as goal

pub returns : goal.returns
returns c = local_links_serve c.hosts_are_called.ensures
