use Rattle.honest_hosts.proofs.Orders.{sound_in_order}
use Rattle.honest_hosts.proofs.laws.outcomes_are_in_order.Goals as goal

pub returns-clause-sound : goal.returns-clause-sound
returns-clause-sound c = λ s tasks child sound. sound_in_order sound

pub returns-clause-kernels : goal.returns-clause-kernels
returns-clause-kernels c = λ script follow boot pids none. sound_in_order (c.states_stay_sound.ensures.kernels script follow boot pids none)

pub returns-clause-boots : goal.returns-clause-boots
returns-clause-boots c = λ boot script pids none. sound_in_order (c.states_stay_sound.ensures.boots boot script pids none)

pub returns-clause-worlds : goal.returns-clause-worlds
returns-clause-worlds c = λ outcome options script boot events none. sound_in_order (c.traced_states_stay_sound.ensures.worlds outcome options script boot events none)

pub returns-clause-hosts : goal.returns-clause-hosts
returns-clause-hosts c = λ outcome follow boot deeds none. sound_in_order (c.traced_states_stay_sound.ensures.hosts outcome follow boot deeds none)
