use Rattle.trace_run.proofs.InProcess.{local_links_answer_their_own}
use Rattle.trace_run.proofs.laws.local_links_answer_their_own.Goals as goal

pub returns : goal.returns
returns c = local_links_answer_their_own c.local_links_serve.ensures c.worlds_attend.ensures.calls c.worlds_attend.ensures.append c.own_replies_tell.ensures.out_of_turns c.schedules_are_lists.ensures c.own_replies_tell.ensures.talks c.hosts_run_alike.ensures.begin
