use Rattle.pt_sound.proofs.Traced.{turns_sound, requests_sound, worlds_sound, hosts_sound}
use Rattle.pt_sound.proofs.laws.traced_states_stay_sound.Goals as goal

pub returns-clause-turn : goal.returns-clause-turn
returns-clause-turn c = turns_sound

pub returns-clause-request : goal.returns-clause-request
returns-clause-request c = requests_sound

pub returns-clause-worlds : goal.returns-clause-worlds
returns-clause-worlds c = worlds_sound

pub returns-clause-hosts : goal.returns-clause-hosts
returns-clause-hosts c = hosts_sound c.hosts_run_alike.ensures.turn c.hosts_run_alike.ensures.serve c.hosts_run_alike.ensures.begin
