use Rattle.honest_hosts.proofs.Reached.{frames_read_back, replies_in_order, served_in_order, read_back}
use Rattle.honest_hosts.proofs.laws.honest_replies_read_back.Goals as goal

pub returns-clause-host : goal.returns-clause-host
returns-clause-host c = replies_in_order c.outcomes_are_in_order.ensures.hosts

pub returns-clause-frames : goal.returns-clause-frames
returns-clause-frames c = frames_read_back c.outcomes_are_in_order.ensures.hosts c.what_is_encoded_reads_back.ensures.back

pub returns-clause-served : goal.returns-clause-served
returns-clause-served c = served_in_order c.outcomes_are_in_order.ensures.hosts

pub returns-clause-back : goal.returns-clause-back
returns-clause-back c = read_back c.outcomes_are_in_order.ensures.hosts c.what_is_encoded_reads_back.ensures.back
