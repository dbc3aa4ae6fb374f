use Rattle.trace_run.proofs.Failing.{local_links_fail}
use Rattle.trace_run.proofs.laws.local_links_fail.Goals as goal

pub returns : goal.returns
returns c = local_links_fail c.local_links_serve.ensures c.worlds_attend.ensures.calls c.worlds_attend.ensures.append c.own_replies_tell.ensures.out_of_turns c.local_links_tell_parts.ensures c.events_are_few.ensures.few
