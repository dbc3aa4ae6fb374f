use Rattle.pt_model.proofs.Hosts.{hosts_begin_alike, hosts_turn_alike, hosts_serve_alike, hosts_attend_alike, hosts_run_the_kernel, empty_script_is_none}
use Rattle.pt_model.proofs.laws.hosts_run_alike.Goals as goal

pub returns-clause-begin : goal.returns-clause-begin
returns-clause-begin g c = λ s. hosts_begin_alike s

pub returns-clause-turn : goal.returns-clause-turn
returns-clause-turn g c = λ m. hosts_turn_alike m

pub returns-clause-serve : goal.returns-clause-serve
returns-clause-serve g c = λ m. hosts_serve_alike m

pub returns-clause-event : goal.returns-clause-event
returns-clause-event g c = λ m. hosts_attend_alike m

pub returns-clause-kernel : goal.returns-clause-kernel
returns-clause-kernel g c = λ m. hosts_run_the_kernel m

pub returns-clause-none : goal.returns-clause-none
returns-clause-none g c = empty_script_is_none
