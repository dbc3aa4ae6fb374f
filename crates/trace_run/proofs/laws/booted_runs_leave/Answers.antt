use Rattle.trace_run.proofs.Records.{booted_leave}
use Rattle.trace_run.proofs.laws.booted_runs_leave.Goals as goal

pub returns : goal.returns
returns c = booted_leave c.local_links_serve.ensures c.worlds_attend.ensures.calls c.worlds_attend.ensures.append c.own_replies_tell.ensures.out_of_turns c.hosts_run_alike.ensures.begin
