use Rattle.call_laws.proofs.OnProcesses.{processes_do_no_more}
use Rattle.call_laws.proofs.laws.calls_on_processes_leave_others.Goals as goal

pub returns : goal.returns
returns c = processes_do_no_more
