use Rattle.pt_laws.proofs.Once.{turns_keep_once, requests_keep_once, stops_are_told_once}
use Rattle.pt_laws.proofs.Worlds.{worlds_are_attended}
use Rattle.pt_laws.proofs.laws.polite_clients_are_told_once.Goals as goal

pub returns-clause-turn : goal.returns-clause-turn
returns-clause-turn c c' = turns_keep_once

pub returns-clause-request : goal.returns-clause-request
returns-clause-request c c' = requests_keep_once

pub returns-clause-all : goal.returns-clause-all
returns-clause-all c c' = stops_are_told_once

pub returns-clause-worlds : goal.returns-clause-worlds
returns-clause-worlds c c' = worlds_are_attended
