use Rattle.call_laws.proofs.OnFiles.{files_do_no_more}
use Rattle.call_laws.proofs.laws.calls_on_files_leave_others.Goals as goal

pub returns : goal.returns
returns c = files_do_no_more
