use Rattle.host_link.proofs.LinkLists.{first_links_serve, links_serve_lists, lists_fail_for_memory, lists_have_one_answer}
use Rattle.host_link.proofs.laws.local_links_serve_lists.Goals as goal

pub returns-clause-lists : goal.returns-clause-lists
returns-clause-lists c = links_serve_lists c.hosts_are_called.ensures

pub returns-clause-one : goal.returns-clause-one
returns-clause-one c = lists_have_one_answer

pub returns-clause-first : goal.returns-clause-first
returns-clause-first c = first_links_serve c.hosts_run_alike.ensures.begin

pub returns-clause-faults : goal.returns-clause-faults
returns-clause-faults c = lists_fail_for_memory
