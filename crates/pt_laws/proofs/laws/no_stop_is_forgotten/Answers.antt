use Rattle.pt_laws.proofs.Stops.{turns_keep_stops, requests_keep_stops, stops_are_kept}
use Rattle.pt_laws.proofs.Hosts.{hosts_keep_stops}
use Rattle.pt_laws.proofs.laws.no_stop_is_forgotten.Goals as goal

pub returns-clause-turn : goal.returns-clause-turn
returns-clause-turn c c' = turns_keep_stops

pub returns-clause-request : goal.returns-clause-request
returns-clause-request c c' = requests_keep_stops

pub returns-clause-all : goal.returns-clause-all
returns-clause-all c c' = stops_are_kept

pub returns-clause-hosts : goal.returns-clause-hosts
returns-clause-hosts c c' = hosts_keep_stops c'.hosts_run_alike.ensures.turn c'.hosts_run_alike.ensures.serve c'.hosts_run_alike.ensures.begin
