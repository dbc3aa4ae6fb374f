use Rattle.trace_run.proofs.InProcess.{local_links_tell_parts}
use Rattle.trace_run.proofs.laws.local_links_tell_parts.Goals as goal

pub returns : goal.returns
returns c = local_links_tell_parts c.local_links_answer_their_own.ensures c.runs_tell.ensures.own c.linux_is_a_machine.ensures c.linux_is_told.ensures
